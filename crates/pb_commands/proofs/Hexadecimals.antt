-- Bytes written in hexadecimal digits.
use Rattle.std.proofs.Common.{◌≡◌, ◌∙◌, ℕ, zero, suc, ◌*◌, ◌/◌, ◌%◌, ◌^◌, ◌<◌, ◌&&◌, Bool, List, []}
use Rattle.std.proofs.Common.{◌∷◌, ◌++◌, ap, arith, eqb, inl, inr, refl, slice_index, sym, true}
use Rattle.std.proofs.Math.Nat.{div-div-eq-div-mul, pow-succ'}
use Rattle.std.proofs.lemmas.Bool.{and_parts, cases_lt, eqb-true}
use Rattle.std.proofs.lemmas.List.{append_assoc}
use Rattle.std.specs.Int.{byte_at, bytes_high_first}
use Rattle.hex.specs.Hex.{encode_lower, encode_with, lower_digits}
use Rattle.pb_commands.specs.BookShown.{digit, hexadecimal}

-- ---- the digits of the kit's table

-- the first places of the table hold the digits of these values
abbrev all_digits : ℕ → Bool
all_digits zero = true
all_digits (suc n) = eqb (slice_index lower_digits n) (digit n) && all_digits n

digit_below : (n value : ℕ) → all_digits n ≡ true → value < n → slice_index lower_digits value ≡ digit value
digit_below zero value all below = absurd (omega arith)
digit_below (suc n) value all below =
    let parts = and_parts (eqb (slice_index lower_digits n) (digit n)) (all_digits n) all in
    elim (cases_lt value n) [
      | inl before ↦ digit_below n value parts.1 before
      | inr last ↦
          let is : value ≡ n = omega arith in
          rw is (eqb-true (slice_index lower_digits n) (digit n) parts.0)
    ]

digit_is : (value : ℕ) → value < 16 → slice_index lower_digits value ≡ digit value
digit_is value below = digit_below 16 value refl below

-- ---- the lowest byte of a number

low_byte_of_more : (n k : ℕ) → byte_at (suc k) n ≡ byte_at k (n / 256)
low_byte_of_more n zero = refl
low_byte_of_more n (suc k) =
    ap (λ d. n / d % 256) (pow-succ' 256 (suc k)) ∙ ap (λ d. d % 256) (sym (div-div-eq-div-mul n 256 (256 ^ suc k)))

-- the bytes of a number end with its lowest
bytes_by_last : (k n : ℕ) → bytes_high_first (suc k) n ≡ bytes_high_first k (n / 256) ++ (n % 256) ∷ []
bytes_by_last zero n = refl
bytes_by_last (suc k) n =
    ap (λ b. b ∷ bytes_high_first (suc k) n) (low_byte_of_more n k)
    ∙ ap (λ bs. byte_at k (n / 256) ∷ bs) (bytes_by_last k n)

-- ---- two digits for each byte

encoded-push : (bytes : List ℕ) (b : ℕ) → b < 256 → encode_lower (bytes ++ b ∷ []) ≡ encode_lower bytes ++ digit (b / 16) ∷ digit (b % 16) ∷ []
unfolding encode_with
encoded-push [] b small =
    ap (λ d. d ∷ slice_index lower_digits (b % 16) ∷ []) (digit_is (b / 16) (omega arith))
    ∙ ap (λ d. digit (b / 16) ∷ d ∷ []) (digit_is (b % 16) (omega arith))
encoded-push (x ∷ bytes) b small =
    ap (λ ds. slice_index lower_digits (x / 16) ∷ slice_index lower_digits (x % 16) ∷ ds) (encoded-push bytes b small)

abbrev twice : ℕ → ℕ
twice zero = zero
twice (suc k) = suc (suc (twice k))

digits_of_twice : (k n : ℕ) → encode_lower (bytes_high_first k n) ≡ hexadecimal (twice k) n
unfolding encode_with hexadecimal
digits_of_twice zero n = refl
digits_of_twice (suc k) n =
    let high : n % 256 / 16 ≡ n / 16 % 16 = omega arith in
    let low : n % 256 % 16 ≡ n % 16 = omega arith in
    let rest : n / 256 ≡ n / 16 / 16 = omega arith in
    ap encode_lower (bytes_by_last k n) ∙ encoded-push (bytes_high_first k (n / 256)) (n % 256) (omega arith)
    ∙ ap (λ ds. ds ++ digit (n % 256 / 16) ∷ digit (n % 256 % 16) ∷ []) (digits_of_twice k (n / 256))
    ∙ ap (λ m. hexadecimal (twice k) m ++ digit (n % 256 / 16) ∷ digit (n % 256 % 16) ∷ []) rest
    ∙ ap (λ v. hexadecimal (twice k) (n / 16 / 16) ++ digit v ∷ digit (n % 256 % 16) ∷ []) high
    ∙ ap (λ v. hexadecimal (twice k) (n / 16 / 16) ++ digit (n / 16 % 16) ∷ digit v ∷ []) low
    ∙ sym (append_assoc (hexadecimal (twice k) (n / 16 / 16)) (digit (n / 16 % 16) ∷ []) (digit (n % 16) ∷ []))

twice_is : (k : ℕ) → twice k ≡ 2 * k
twice_is zero = refl
twice_is (suc k) = let before = twice_is k in omega arith

-- the bytes of a number of this many, in the order of their worth
pub digits_of_bytes : (k n : ℕ) → encode_lower (bytes_high_first k n) ≡ hexadecimal (2 * k) n
digits_of_bytes k n = digits_of_twice k n ∙ ap (λ width. hexadecimal width n) (twice_is k)
