-- Where a list breaks a rule.
use Rattle.std.proofs.Common.{◌≡◌, ℕ, ◌+◌, ◌-◌, ◌<◌, ◌≤◌, List, [], ◌∷◌, ◌++◌, length, take, drop, get_or, inl, inr, refl, sym, ap, ◌∙◌, subst, arith}
use Rattle.std.specs.Prelude.{All}
use Rattle.std.proofs.Math.Seq.{take-append-add, take-append_seam}
use Rattle.std.proofs.lemmas.Bool.{cases_lt}
use Rattle.std.proofs.lemmas.List.{length-take, take-append-drop, take-append-le, take_all, take_more}
use Rattle.std.proofs.lemmas.List.Elements.{All-contains, All-take, Contains-append_right}
use Rattle.pb_board.specs.Refusal.{BreaksAt}

module _ {A : Type 0} (rule : List A → Type 0) where
  pub breaks_from : (xs before : List A) (x : A) (after : List A) (n : ℕ) → xs ≡ before ++ x ∷ after → n ≡ length before + 1 → rule before → ¬ rule (before ++ x ∷ []) → BreaksAt rule xs n
  breaks_from xs before x after n are number kept broken =
      let front : n - 1 ≡ length before = omega (arith, number) in
      let up_to : take (n - 1) xs ≡ before = ap (λ m. take m xs) front ∙ ap (take (length before)) are ∙ take-append_seam before (x ∷ after) in
      let with_it : take n xs ≡ before ++ x ∷ [] = ap (λ m. take m xs) number ∙ ap (take (length before + 1)) are ∙ take-append-add before (x ∷ after) 1 in
      (subst rule (sym up_to) kept, λ k. broken (subst rule with_it k))

  -- the same by the place, from 0, of the one that breaks it
  pub breaks_after : (xs : List A) (i : ℕ) (d : A) → i < length xs → rule (take i xs) → ¬ rule (take i xs ++ get_or xs i d ∷ []) → BreaksAt rule xs (i + 1)
  breaks_after xs i d within kept broken =
      let front : (i + 1) - 1 ≡ i = omega arith in
      (subst (λ m. rule (take m xs)) (sym front) kept, λ k. broken (subst rule (take_more xs i d within) k))

  -- it is broken within the list
  pub breaks_within : (xs : List A) (n : ℕ) → BreaksAt rule xs n → (0 < n) × (n ≤ length xs)
  breaks_within xs n h = (
    elim (cases_lt 0 n) [ inl some ↦ some | inr none ↦ absurd (h.1 (subst (λ m. rule (take m xs)) (omega (arith, none)) h.0)) ],
    elim (cases_lt (length xs) n) [
      | inl past ↦ absurd (h.1 (subst rule (take_all (n - 1) xs (omega (arith, past)) ∙ sym (take_all n xs (omega (arith, past)))) h.0))
      | inr within ↦ within
    ],
  )

  -- what comes after it doesn't matter
  pub breaks_more : (xs more : List A) (n : ℕ) → BreaksAt rule xs n → BreaksAt rule (xs ++ more) n
  breaks_more xs more n h =
      let within = (breaks_within xs n h).1 in
      (subst rule (sym (take-append-le (n - 1) xs more (omega (arith, within)))) h.0, λ k. h.1 (subst rule (take-append-le n xs more within) k))

  -- a front of what keeps the rule keeps it
  abbrev pub KeepsFronts : Type 0
  KeepsFronts = (front back : List A) → rule (front ++ back) → rule front

  module _ (fronts : KeepsFronts) where
    front_kept : (xs : List A) (n : ℕ) → rule xs → rule (take n xs)
    front_kept xs n h = fronts (take n xs) (drop n xs) (subst rule (sym (take-append-drop n xs)) h)

    -- a list that keeps the rule breaks it nowhere
    pub unbroken : (xs : List A) (n : ℕ) → rule xs → ¬ BreaksAt rule xs n
    unbroken xs n h k = k.1 (front_kept xs n h)

    not_before : (xs : List A) (m n : ℕ) → BreaksAt rule xs m → BreaksAt rule xs n → m < n → ⊥
    not_before xs m n h k less =
        let long : m ≤ length (take (n - 1) xs) = omega (arith, less, (breaks_within xs n k).1, length-take (n - 1) xs) in
        let same : take m (take (n - 1) xs) ≡ take m xs =
        sym (take-append-le m (take (n - 1) xs) (drop (n - 1) xs) long) ∙ ap (take m) (take-append-drop (n - 1) xs) in
        h.1 (subst rule same (front_kept (take (n - 1) xs) m k.0))

    -- a list breaks the rule at one place
    pub one_break : (xs : List A) (m n : ℕ) → BreaksAt rule xs m → BreaksAt rule xs n → m ≡ n
    one_break xs m n h k =
        elim (cases_lt m n) [
          | inl less ↦ absurd (not_before xs m n h k less)
          | inr le ↦ elim (cases_lt n m) [ inl less ↦ absurd (not_before xs n m k h less) | inr ge ↦ omega arith ]
        ]

-- the rule that P holds of each
module _ {A : Type 0} (P : A → Type 0) where
  all_fronts : KeepsFronts (All P)
  all_fronts front back h = subst (All P) (take-append_seam front back) (All-take P (length front) (front ++ back) h)

  pub all_middle : (before : List A) (x : A) (after : List A) → All P (before ++ x ∷ after) → P x
  all_middle before x after h = All-contains P (before ++ x ∷ after) x h (Contains-append_right before (x ∷ after) x (0, omega arith, refl))

  -- the first of which it doesn't hold
  pub all_breaks : (xs before : List A) (x : A) (after : List A) (n : ℕ) → xs ≡ before ++ x ∷ after → n ≡ length before + 1 → All P before → ¬ P x → BreaksAt (All P) xs n
  all_breaks xs before x after n are number kept bad = breaks_from (All P) xs before x after n are number kept (λ k. bad (all_middle before x [] k))

  pub all_unbroken : (xs : List A) (n : ℕ) → All P xs → ¬ BreaksAt (All P) xs n
  all_unbroken = unbroken (All P) all_fronts

  pub one_all_break : (xs : List A) (m n : ℕ) → BreaksAt (All P) xs m → BreaksAt (All P) xs n → m ≡ n
  one_all_break = one_break (All P) all_fronts
