-- Tests of the numbers below a bound, computed once for a table.
use Rattle.std.proofs.Common.{◌≡◌, ℕ, ◌<◌, ◌&&◌, arith, subst, Bool, true, zero, suc, inl, inr}
use Rattle.std.proofs.lemmas.Bool.{and_parts, cases_lt}

-- a test of each number below n
abbrev pub all_below : (ℕ → Bool) → ℕ → Bool
all_below p zero = true
all_below p (suc n) = p n && all_below p n

pub all_below_at : (p : ℕ → Bool) (n k : ℕ) → all_below p n ≡ true → k < n → p k ≡ true
all_below_at p zero k h lt = absurd (omega arith)
all_below_at p (suc n) k h lt =
    let parts = and_parts (p n) (all_below p n) h in
    elim (cases_lt k n) [
      | inl l ↦ all_below_at p n k parts.1 l
      | inr g ↦ (let same : n ≡ k = omega arith in let P : ℕ → Type 0 = λ x. p x ≡ true in subst P same parts.0)
    ]
