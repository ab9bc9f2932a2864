-- Hexadecimal digits, and the randoms that they write.
use Rattle.std.proofs.Common.{◌≡◌, ℕ, ◌+◌, ◌*◌, ◌^◌, ◌<◌, ◌≤◌, ◌⊎◌, ◌%◌, List, [], ◌∷◌, length, fold, Option, Some, None, is_some, true, Result, Ok, Err, refl, sym, ap, ◌∙◌, subst, arith}
use Rattle.std.specs.Prelude.{MatchResult, is_ok}
use Rattle.std.specs.Char.{digit_value}
use Rattle.std.specs.List.{AllPass, AllZip}
use Rattle.std.specs.Str.Parse.{AllDigits, IsNumeral, digits_value, digits_value_after}
use Rattle.std.specs.Int.{w64, from_be_bytes}
use Rattle.std.specs.Result.{result_unwrap_or}
use Rattle.std.proofs.lemmas.Bool.Decides.{nat_tests}
use Rattle.std.proofs.lemmas.List.Elements.{All-head, All-tail, length_all_zip}
use Rattle.hex.specs.Hex.{IsBytes, decode_pairs, decode_sized, digit_or_error, hex_digit_value, is_hex_digit, pair_value, value_at}
use Rattle.hex.specs.declared.error.FromHexError.{FromHexError}
use Rattle.hex.proofs.HexLemmas.{IsOk-decode_sized, decode_pairs-ok}
use Rattle.hex.proofs.Pairs.{cons_byte, decode_pairs-ok_pair, decode_sized-pairs}

-- ---- digits by their values

-- a byte is a hexadecimal digit of this value, of either case
abbrev IsDigit : ℕ → ℕ → Type 0
IsDigit byte value =
    ((value < 10) × (byte ≡ 48 + value)) ⊎ ((10 ≤ value) × (value < 16) × ((byte ≡ 87 + value) ⊎ (byte ≡ 55 + value)))

-- the number of these digits' values, the first one counting most, after n
abbrev digits_after : ℕ → List ℕ → ℕ
digits_after n values = fold (λ m v. 16 * m + v) n values

-- these are 16 digits that write the random
abbrev pub WritesRandom : List ℕ → ℕ → Type 0
WritesRandom digits random = (length digits ≡ 16) × IsNumeral 16 digits × (random ≡ digits_value 16 digits)

-- the same by the values of the digits
record WritesByValues (digits : List ℕ) (random : ℕ) : Type 0 where
  pub values : List ℕ
  pub sixteen : length values ≡ 16
  pub are : AllZip IsDigit digits values
  pub random_is : random ≡ digits_after 0 values

digit_to : (b v : ℕ) → IsDigit b v → (digit_value b ≡ v) × (digit_value b < 16)
digit_to b v h = grind (arith, nat_tests)

digit_from : (b : ℕ) → digit_value b < 16 → IsDigit b (digit_value b)
digit_from b h = grind (arith, nat_tests)

digits_to : (text values : List ℕ) (n : ℕ) → AllZip IsDigit text values → AllDigits 16 text × (digits_after n values ≡ digits_value_after 16 n text)
digits_to [] [] n h = (tt, refl)
digits_to [] (v ∷ values) n h = absurd h
digits_to (b ∷ text) [] n h = absurd h
digits_to (b ∷ text) (v ∷ values) n h =
    let digit = digit_to b v h.0 in
    let rest = digits_to text values (16 * n + v) h.1 in
    let same : 16 * n + v ≡ n * 16 + digit_value b = omega (arith, digit.0) in
    ((digit.1, rest.0), rest.1 ∙ ap (λ m. digits_value_after 16 m text) same)

digits_from : (text : List ℕ) → AllDigits 16 text → (values : List ℕ) × AllZip IsDigit text values
digits_from [] h = ([], tt)
digits_from (b ∷ text) h = let rest = digits_from text h.1 in (digit_value b ∷ rest.0, (digit_from b h.0, rest.1))

writes_to : (digits : List ℕ) (random : ℕ) → WritesByValues digits random → WritesRandom digits random
writes_to digits random h =
    let all = digits_to digits h.values 0 h.are in
    let long : length digits ≡ 16 = length_all_zip IsDigit digits h.values h.are ∙ h.sixteen in
    (long, (omega (arith, long), all.0), h.random_is ∙ all.1)

writes_from : (digits : List ℕ) (random : ℕ) → WritesRandom digits random → WritesByValues digits random
writes_from digits random h =
    let values = digits_from digits h.1.1 in record {
      values = values.0;
      sixteen = sym (length_all_zip IsDigit digits values.0 values.1) ∙ h.0;
      are = values.1;
      random_is = h.2 ∙ sym (digits_to digits values.0 0 values.1).1;
    }

-- ---- digits that `hex` decodes

-- a digit of a value is one that `hex` reads as that value
digit_is : (b v : ℕ) → IsDigit b v → hex_digit_value b ≡ Some v
digit_is b v h = grind (arith, nat_tests)

is_digit : (b v : ℕ) → hex_digit_value b ≡ Some v → IsDigit b v
is_digit b v h = grind (arith, nat_tests)

digits_of_some : (b : ℕ) (o : Option ℕ) → hex_digit_value b ≡ o → is_some o ≡ true → (v : ℕ) × IsDigit b v
digits_of_some b None e h = cc
digits_of_some b (Some v) e h = (v, is_digit b v e)

digits_of : (text : List ℕ) → AllPass is_hex_digit text → (values : List ℕ) × AllZip IsDigit text values
digits_of [] all = ([], tt)
digits_of (b ∷ rest) all =
    let first = digits_of_some b (hex_digit_value b) refl (All-head (λ c. is_hex_digit c ≡ true) b rest all) in
    let more = digits_of rest (All-tail (λ c. is_hex_digit c ≡ true) b rest all) in
    (first.0 ∷ more.0, (first.1, more.1))

-- the number of these bytes, the first one counting most, after n
abbrev number_after : ℕ → List ℕ → ℕ
number_after n bytes = fold (λ m b. 256 * m + b) n bytes

pairs_of : (i : ℕ) (text values : List ℕ) → AllZip IsDigit text values → length text % 2 ≡ 0
    → (bytes : List ℕ) × (decode_pairs i text ≡ Ok bytes) × (length text ≡ 2 * length bytes) × ((n : ℕ) → digits_after n values ≡ number_after n bytes)
unfolding decode_pairs
pairs_of i [] [] zip even = ([], refl, refl, λ n. refl)
pairs_of i [] (v ∷ values) zip even = absurd zip
pairs_of i (a ∷ rest) [] zip even = absurd zip
pairs_of i (a ∷ []) (v ∷ values) zip even = absurd (omega arith)
pairs_of i (a ∷ b ∷ rest) (v ∷ []) zip even = absurd zip.1
pairs_of i (a ∷ b ∷ rest) (x ∷ y ∷ values) zip even =
    let more = pairs_of (i + 2) rest values zip.1.1 (omega arith) in
    let high : value_at a i ≡ Ok x = ap (digit_or_error a i) (digit_is a x zip.0) in
    let low : value_at b (i + 1) ≡ Ok y = ap (digit_or_error b (i + 1)) (digit_is b y zip.1.0) in
    let pair : pair_value a b i ≡ Ok (x * 16 + y) = rw (high, low) refl in
    let long = more.2 in (
      (x * 16 + y) ∷ more.0,
      decode_pairs-ok_pair i a b _ rest pair ∙ ap (cons_byte (x * 16 + y)) more.1,
      omega (arith, long),
      λ n. let next : 16 * (16 * n + x) + y ≡ 256 * n + (x * 16 + y) = omega arith in
          ap (λ m. digits_after m values) next ∙ more.3 (256 * n + (x * 16 + y)),
    )

-- eight bytes as a number
eight : (bytes : List ℕ) → length bytes ≡ 8 → from_be_bytes w64 bytes ≡ number_after 0 bytes
eight (a ∷ b ∷ c ∷ d ∷ e ∷ f ∷ g ∷ h ∷ []) long = omega arith
eight bytes long = absurd (omega arith)

-- Sixteen digits decode to eight bytes of the same number.
decoded_digits : (digits : List ℕ) (random : ℕ) → WritesByValues digits random → (bytes : List ℕ) × (decode_sized digits 8 ≡ Ok bytes) × (random ≡ from_be_bytes w64 bytes)
decoded_digits digits random h =
    let long : length digits ≡ 16 = length_all_zip IsDigit digits h.values h.are ∙ h.sixteen in
    let pairs = pairs_of 0 digits h.values h.are (omega arith) in
    let half = pairs.2 in (
      pairs.0,
      decode_sized-pairs digits 8 (omega arith) (omega arith) ∙ pairs.1,
      h.random_is ∙ pairs.3 0 ∙ sym (eight pairs.0 (omega (arith, half, long))),
    )

-- what `decode_to_slice` left, where it answered success and where it didn't
abbrev pub Decoded : Result (List ℕ) FromHexError → Result (Unit {0}) FromHexError → List ℕ → Type 0
Decoded decoded answer out = MatchResult decoded (λ bytes. (answer ≡ Ok tt) × (out ≡ bytes)) (λ e. answer ≡ Err e)

decoded_ok : (decoded : Result (List ℕ) FromHexError) (out : List ℕ) → Decoded decoded (Ok tt) out → decoded ≡ Ok out
decoded_ok (Ok bytes) out h = ap Ok (sym h.1)
decoded_ok (Err e) out h = absurd (cc h)

decoded_err : (decoded : Result (List ℕ) FromHexError) (e : FromHexError) (out : List ℕ) → Decoded decoded (Err e) out → decoded ≡ Err e
decoded_err (Ok bytes) e out h = absurd (cc h.0)
decoded_err (Err d) e out h = let same : e ≡ d = cc in ap Err (sym same)

pub written : (digits out : List ℕ) (random : ℕ) → Decoded (decode_sized digits 8) (Ok tt) out → random ≡ from_be_bytes w64 out → WritesRandom digits random
written digits out random h random_is =
    let is = decoded_ok (decode_sized digits 8) out h in
    let passes = (IsOk-decode_sized digits 8).0 (ap is_ok is) in
    let v = digits_of digits passes.1 in
    let sixteen : length v.0 ≡ 16 = sym (length_all_zip IsDigit digits v.0 v.1) ∙ passes.0 in
    let p = decoded_digits digits (digits_after 0 v.0) (record { values = v.0; sixteen = sixteen; are = v.1; random_is = refl }) in
    let same : p.0 ≡ out = ap (λ (r : Result (List ℕ) FromHexError). result_unwrap_or r []) (sym p.1 ∙ is) in
    writes_to digits random (record { values = v.0; sixteen = sixteen; are = v.1; random_is = random_is ∙ ap (λ bytes. from_be_bytes w64 bytes) (sym same) ∙ sym p.2 })

pub unwritten : (digits : List ℕ) (e : FromHexError) (out : List ℕ) → Decoded (decode_sized digits 8) (Err e) out → (random : ℕ) → ¬ WritesRandom digits random
unwritten digits e out h random writes =
    let is = decoded_err (decode_sized digits 8) e out h in
    let p = decoded_digits digits random (writes_from digits random writes) in
    absurd (cc (sym is ∙ p.1))

eight_small : (bytes : List ℕ) → length bytes ≡ 8 → IsBytes bytes → from_be_bytes w64 bytes < 2 ^ 64
eight_small (a ∷ b ∷ c ∷ d ∷ e ∷ f ∷ g ∷ h ∷ []) long small = omega (arith, small 0, small 1, small 2, small 3, small 4, small 5, small 6, small 7)
eight_small bytes long small = absurd (omega arith)

-- Sixteen digits write a random of 64 bits.
pub random_small : (digits : List ℕ) (random : ℕ) → WritesRandom digits random → random < 2 ^ 64
random_small digits random h =
    let long = h.0 in
    let p = decoded_digits digits random (writes_from digits random h) in
    let pairs = decode_pairs-ok 0 digits p.0 (sym (decode_sized-pairs digits 8 (omega (arith, long)) (omega (arith, long))) ∙ p.1) in
    let half = pairs.1 in
    let below = eight_small p.0 (omega (arith, half, long)) pairs.2 in
    let is = p.2 in
    subst (λ (n : ℕ). n < 2 ^ 64) (sym is) below

-- Digits write one random.
pub random_is_one : (digits : List ℕ) (v w : ℕ) → WritesRandom digits v → WritesRandom digits w → v ≡ w
random_is_one digits v w x y = x.2 ∙ sym y.2
