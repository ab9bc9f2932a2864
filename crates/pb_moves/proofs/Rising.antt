-- Going through the bits of a number from the lowest up.
use Rattle.std.proofs.Common.{◌≡◌, ◌≢◌, ℕ, ◌*◌, ◌^◌, ◌%◌, ◌<◌, ◌≤◌, arith, sym, subst, inl, inr, bit_and, w64}
use mir.Val.{bits}
use Rattle.std.specs.Int.{bit_at, bit_not, trailing_zeros}
use Rattle.std.specs.Int.Count.{trailing_of_zero}
use Rattle.std.proofs.lemmas.Bool.{cases_order, cases_lt}
use Rattle.std.proofs.lemmas.Nat.{and_le_l}
use Rattle.std.proofs.lemmas.Nat.Bits.{bit_at-zero, bit_at_clear_same, bit_at_clear_other, bit_at-trailing_zeros}

-- below the lowest bit there is none
pub low_bits : (n i : ℕ) → n < 2 ^ 64 → i < trailing_zeros w64 n → bit_at n i ≡ 0
low_bits n i small below =
    elim (cases_lt 0 n) [
      | inl some ↦ (bit_at-trailing_zeros w64 n some small).2 i below
      | inr zero_n ↦ (let none : n ≡ 0 = omega arith in let P : ℕ → Type 0 = λ x. bit_at x i ≡ 0 in subst P (sym none) (bit_at-zero i))
    ]

pub zeros_bound : (n : ℕ) → n < 2 ^ 64 → trailing_zeros w64 n ≤ 64
zeros_bound n small =
    elim (cases_lt 0 n) [
      | inl some ↦ (let lt = (bit_at-trailing_zeros w64 n some small).0 in omega arith)
      | inr zero_n ↦ (let none : n ≡ 0 = omega arith in let P : ℕ → Type 0 = λ x. trailing_zeros w64 x ≤ 64 in subst P (sym none) (let e : trailing_zeros w64 0 ≡ 64 = trailing_of_zero 64 in omega arith))
    ]

-- a number that isn't 0 has a bit
pub zeros_some : (n : ℕ) → n < 2 ^ 64 → 0 < n → trailing_zeros w64 n < 64
zeros_some n small some = (bit_at-trailing_zeros w64 n some small).0

-- the lowest bit, where there is one
pub low_bit : (n : ℕ) → n < 2 ^ 64 → trailing_zeros w64 n < 64 → bit_at n (trailing_zeros w64 n) ≡ 1
low_bit n small some_bit =
    elim (cases_lt 0 n) [
      | inl some ↦ (bit_at-trailing_zeros w64 n some small).1
      | inr zero_n ↦ (let none : n ≡ 0 = omega arith in let P : ℕ → Type 0 = λ x. trailing_zeros w64 x < 64 in let h = subst P none some_bit in let e : trailing_zeros w64 0 ≡ 64 = trailing_of_zero 64 in absurd (omega arith))
    ]

-- the number without the bit at k, as the code computes it
abbrev pub without : ℕ → ℕ → ℕ
without n k = bit_and n (bit_not w64 (1 * 2 ^ k % 2 ^ bits w64))

pub without_other : (n k i : ℕ) → k < 64 → i < 64 → i ≢ k → bit_at (without n k) i ≡ bit_at n i
without_other n k i lt on ne = bit_at_clear_other w64 n k lt i on ne

pub without_same : (n k : ℕ) → k < 64 → bit_at (without n k) k ≡ 0
without_same n k lt = bit_at_clear_same w64 n k lt

pub without_small : (n k : ℕ) → n < 2 ^ 64 → without n k < 2 ^ 64
without_small n k small = let le = and_le_l n (bit_not w64 (1 * 2 ^ k % 2 ^ bits w64)) in omega arith

-- without its lowest bit, a number's lowest bit is higher
pub zeros_rise : (n : ℕ) → n < 2 ^ 64 → without n (trailing_zeros w64 n) < 2 ^ 64 → trailing_zeros w64 n < 64
    → trailing_zeros w64 n < trailing_zeros w64 (without n (trailing_zeros w64 n))
zeros_rise n small smaller some =
    let k = trailing_zeros w64 n in
    let rest = without n (trailing_zeros w64 n) in
    let j = trailing_zeros w64 rest in
    elim (cases_order k j) [
      | inl same ↦ absurd (let j_small : trailing_zeros w64 rest < 64 = omega arith in let one = low_bit rest smaller j_small in
          let P : ℕ → Type 0 = λ x. bit_at rest x ≡ 1 in
          let zero_there = without_same n k some in
          let one_there = subst P (sym same) one in omega arith)
      | inr o ↦ elim o [
        | inl l ↦ l
        | inr g ↦ absurd (let j_small : trailing_zeros w64 rest < 64 = omega arith in let one = low_bit rest smaller j_small in
            let ne : trailing_zeros w64 rest ≢ trailing_zeros w64 n = λ e. omega arith in
            let same = without_other n k j some j_small ne in
            let none = low_bits n j small g in omega arith)
      ]
    ]
