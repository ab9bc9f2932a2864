-- No other number has the decimal text of a number of a game.
use Rattle.std.proofs.Common.{◌≡◌, ℕ, zero, suc, ◌+◌, ◌*◌, ◌/◌, ◌%◌, ◌^◌, ◌≤◌, Bool, true, false, cond, eqb, eqb-true, List, [], ◌∷◌, length, refl, ap, inl, inr, arith}
use Rattle.std.specs.Prelude.{decimal}
use Rattle.std.specs.Fmt.{digit_glyph, digits, digits_onto}
use Rattle.std.proofs.Math.Nat.{pow-succ'}
use Rattle.std.proofs.lemmas.Bool.{cases_lt}
use Rattle.std.proofs.lemmas.Fmt.{decimal_injective, length-decimal-le_wide}

onto_nil : (n : ℕ) → digits_onto 64 10 false n [] ≡ decimal n
unfolding digits
onto_nil n = refl

-- the next digit, and the ones before it unless it was the first
onto_suc : (k n : ℕ) (acc : List ℕ) (last : Bool) → eqb (n / 10) 0 ≡ last
    → digits_onto (suc k) 10 false n acc ≡ cond last (digit_glyph false (n % 10) ∷ acc) (digits_onto k 10 false (n / 10) (digit_glyph false (n % 10) ∷ acc))
onto_suc k n acc last e = ap (λ (b : Bool). cond b (digit_glyph false (n % 10) ∷ acc) (digits_onto k 10 false (n / 10) (digit_glyph false (n % 10) ∷ acc))) e

-- where there is room, a number has more digits than a power of ten that it reaches
long : (k j n : ℕ) (acc : List ℕ) → j ≤ k → 10 ^ j ≤ n → j + length acc ≤ length (digits_onto k 10 false n acc)
long k zero n acc room many = omega (arith, grows k n acc)
  where
    grows : (k n : ℕ) (acc : List ℕ) → length acc ≤ length (digits_onto k 10 false n acc)
    grows zero n acc = omega arith
    grows (suc k) n acc = by (eqb (n / 10) 0) refl (grows k (n / 10) (digit_glyph false (n % 10) ∷ acc))
      where
        by : (last : Bool) → eqb (n / 10) 0 ≡ last → suc (length acc) ≤ length (digits_onto k 10 false (n / 10) (digit_glyph false (n % 10) ∷ acc))
            → length acc ≤ length (digits_onto (suc k) 10 false n acc)
        by true e rest = omega (arith, ap length (onto_suc k n acc true e))
        by false e rest = omega (arith, ap length (onto_suc k n acc false e), rest)
long zero (suc j) n acc room many = absurd (omega (arith, room))
long (suc k) (suc j) n acc room many =
    let ten : 10 * 10 ^ j ≤ n = omega (arith, many, pow-succ' 10 j) in
    by (eqb (n / 10) 0) refl (one_or_more j) ten (long k j (n / 10) (digit_glyph false (n % 10) ∷ acc) (omega (arith, room)) (omega (arith, ten)))
  where
    one_or_more : (j : ℕ) → 1 ≤ 10 ^ j
    one_or_more zero = omega arith
    one_or_more (suc j) = omega (arith, one_or_more j, pow-succ' 10 j)

    by : (last : Bool) → eqb (n / 10) 0 ≡ last → 1 ≤ 10 ^ j → 10 * 10 ^ j ≤ n
        → j + suc (length acc) ≤ length (digits_onto k 10 false (n / 10) (digit_glyph false (n % 10) ∷ acc))
        → suc j + length acc ≤ length (digits_onto (suc k) 10 false n acc)
    by true e some ten rest = absurd (omega (arith, eqb-true (n / 10) 0 e, some, ten))
    by false e some ten rest = omega (arith, ap length (onto_suc k n acc false e), rest)

pub same_number : (m n : ℕ) → m ≤ 1000000 → decimal m ≡ decimal n → m ≡ n
same_number m n few e =
    elim (cases_lt n 100000000) [
      | inl less ↦ decimal_injective m n (omega (arith, few)) (omega (arith, less)) e
      | inr many ↦
          absurd (omega (
            arith,
            long 64 8 n [] (omega arith) many,
            ap length (onto_nil n),
            ap length e,
            length-decimal-le_wide 7 m (omega arith) (omega (arith, few)) (omega (arith, few)),
          ))
    ]
