-- Lists with the same members.
use Rattle.std.proofs.Common.{◌≡◌, ◌≢◌, ℕ, ◌+◌, ◌<◌, List, [], ◌∷◌, length, get_or, Contains, IsPermutation, sym, subst, ◌∙◌, inl, inr, arith}
use Rattle.std.specs.List.{remove}
use Rattle.std.proofs.lemmas.Bool.{cases_lt}
use Rattle.std.proofs.lemmas.List.Edits.{length-remove, get_or-remove_below, get_or-remove_above}
use Rattle.std.proofs.lemmas.List.Quantifiers.{all_pairs_remove}
use Rattle.std.proofs.lemmas.List.Sorted.{IsPermutation-refl, IsPermutation-sym, IsPermutation-trans, IsPermutation-cons, IsPermutation-remove, Contains-permutation}
use Rattle.pb_board.proofs.Elements.{contains_cases, contains_head, contains_tail, pairs_head, pairs_tail}
use Rattle.pb_accepted.specs.Accepting.{NoRepeats}
use Rattle.pb_board.proofs.InOrder.{none_in_nil}

module _ {X : Type 0} where
  -- a member that was taken out is gone
  gone : (ys : List X) (k : ℕ) (x : X) → k < length ys → get_or ys k x ≡ x → NoRepeats ys → Contains (remove ys k) x → ⊥
  gone ys k x lt here once c =
      let m = c.0 in
      let n = length-remove ys k lt in
      elim (cases_lt m k) [
        | inl before ↦ once m k x before lt (sym (get_or-remove_below ys k x m before lt) ∙ c.2 ∙ sym here)
        | inr from ↦ once k (m + 1) x (omega arith) (omega (arith, c.1, n)) (here ∙ sym c.2 ∙ get_or-remove_above ys k x m from lt)
      ]

  -- lists without repeats that have the same members are one in another order
  pub permutation_from_members : (xs ys : List X) → NoRepeats xs → NoRepeats ys → ((z : X) → Contains xs z → Contains ys z) → ((z : X) → Contains ys z → Contains xs z) → IsPermutation xs ys
  permutation_from_members [] [] h k to from = IsPermutation-refl []
  permutation_from_members [] (y ∷ ys) h k to from = absurd (none_in_nil y (from y (contains_head y ys)))
  permutation_from_members (x ∷ xs) ys h k to from =
      let found = to x (contains_head x xs) in
      let out = IsPermutation-remove ys found.0 x found.1 (sym found.2) in
      let rest = permutation_from_members xs (remove ys found.0) (pairs_tail (λ x y. x ≢ y) x xs h) (all_pairs_remove (λ x y. x ≢ y) ys found.0 found.1 k)
      (λ z c. elim (contains_cases x (remove ys found.0) z (Contains-permutation ys (x ∷ remove ys found.0) z out (to z (contains_tail x xs z c)))) [
        | inl e ↦ absurd (pairs_head (λ x y. x ≢ y) x xs z h c e)
        | inr here ↦ here
      ])
      (λ z c. elim (contains_cases x xs z (from z (Contains-permutation (x ∷ remove ys found.0) ys z (IsPermutation-sym ys (x ∷ remove ys found.0) out) (contains_tail x (remove ys found.0) z c)))) [
        | inl e ↦ absurd (gone ys found.0 x found.1 found.2 k (subst (Contains (remove ys found.0)) (sym e) c))
        | inr here ↦ here
      ]) in
      IsPermutation-trans (x ∷ xs) (x ∷ remove ys found.0) ys (IsPermutation-cons x xs (remove ys found.0) rest) (IsPermutation-sym ys (x ∷ remove ys found.0) out)
