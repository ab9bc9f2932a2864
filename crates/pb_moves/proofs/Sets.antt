-- Sets of squares as numbers: what their meets and joins have, and when they are empty.
use Rattle.std.proofs.Common.{◌≡◌, ℕ, ◌<◌, ◌^◌, ◌⊎◌, arith, subst, ◌∙◌, inl, inr, bit_and, bit_or, w64}
use Rattle.std.specs.Int.{bit_at, bit_not, trailing_zeros}
use Rattle.std.specs.Int.Bits.{bit_xor}
use Rattle.std.proofs.lemmas.Nat.Bits.{bit_at-zero, bit_at-lt, bit_at_and, bit_at_not, bit_at_or, bit_at_xor}
use Rattle.pb_moves.specs.Attackers.{In}
use Rattle.pb_moves.proofs.Rising.{zeros_some, low_bit}
use Rattle.pb_moves.proofs.Differing.{same_or_not}

pub in_and : (x y q : ℕ) → In (bit_and x y) q → In x q × In y q
in_and x y q h =
    let is = bit_at_and x y q in
    let a = bit_at-lt x q in
    let b = bit_at-lt y q in (omega arith, omega arith)

pub in_both : (x y q : ℕ) → In x q → In y q → In (bit_and x y) q
in_both x y q a b = let is = bit_at_and x y q in is ∙ omega arith

pub in_or : (x y q : ℕ) → In (bit_or x y) q → In x q ⊎ In y q
in_or x y q h =
    let is = bit_at_or x y q in
    let a = bit_at-lt x q in
    let b = bit_at-lt y q in
    elim (same_or_not (bit_at x q) 1) [ inl e ↦ inl e | inr ne ↦ inr (omega arith) ]

pub in_first : (x y q : ℕ) → In x q → In (bit_or x y) q
in_first x y q h = let is = bit_at_or x y q in let b = bit_at-lt y q in is ∙ omega arith

pub in_second : (x y q : ℕ) → In y q → In (bit_or x y) q
in_second x y q h = let is = bit_at_or x y q in let a = bit_at-lt x q in is ∙ omega arith

-- what isn't in a set is in what the code makes of it by `!`
pub in_others : (x q : ℕ) → x < 2 ^ 64 → q < 64 → ¬ In x q → In (bit_not w64 x) q
in_others x q small on out =
    let is = bit_at_not w64 x q small on in
    let bit = bit_at-lt x q in
    elim (same_or_not (bit_at x q) 1) [ inl e ↦ absurd (out e) | inr ne ↦ is ∙ omega arith ]

-- nothing is in the empty set
pub in_none : (x q : ℕ) → x ≡ 0 → ¬ In x q
in_none x q e h =
    let P : ℕ → Type 0 = λ n. bit_at n q ≡ 1 in
    let one = subst P e h in
    let none = bit_at-zero q in
    absurd (omega arith)

-- something is in a set that isn't empty
pub in_some : (x : ℕ) → x < 2 ^ 64 → 0 < x → (q : ℕ) × (q < 64) × In x q
in_some x small some = let k = zeros_some x small some in (trailing_zeros w64 x, k, low_bit x small k)

zero_bit : (bit : ℕ) → bit < 2 → ¬ (bit ≡ 1) → bit ≡ 0
zero_bit bit small none = elim (same_or_not bit 1) [ inl e ↦ absurd (none e) | inr ne ↦ omega arith ]

-- what is in just one of two sets
pub in_one : (x y q : ℕ) → In (bit_xor x y) q → (In x q × ¬ In y q) ⊎ (In y q × ¬ In x q)
in_one x y q h =
    let is = bit_at_xor x y q in
    let a = bit_at-lt x q in
    let b = bit_at-lt y q in
    elim (same_or_not (bit_at x q) 1) [ inl e ↦ inl (e, λ other. omega arith) | inr ne ↦ inr (omega arith, ne) ]

pub of_one : (x y q : ℕ) → (In x q × ¬ In y q) ⊎ (In y q × ¬ In x q) → In (bit_xor x y) q
of_one x y q (inl h) = let is = bit_at_xor x y q in let b = bit_at-lt y q in let none : bit_at y q ≡ 0 = zero_bit (bit_at y q) b h.1 in is ∙ omega (arith, h.0)
of_one x y q (inr h) = let is = bit_at_xor x y q in let a = bit_at-lt x q in let none : bit_at x q ≡ 0 = zero_bit (bit_at x q) a h.1 in is ∙ omega (arith, h.0)
