-- What a list contains, and what holds of its pairs.
use Rattle.std.proofs.Common.{◌≡◌, ℕ, zero, suc, ◌<◌, ◌⊎◌, List, [], ◌∷◌, ◌++◌, length, get_or, take, refl, ap, ◌∙◌, subst, inl, inr, arith}
use Rattle.std.specs.Prelude.{All, AllPairs, Contains, map}
use Rattle.std.proofs.Math.Seq.{take-append_seam}
use Rattle.std.proofs.lemmas.List.{get_or-take, length-take}
use Rattle.std.proofs.lemmas.List.Elements.{Contains-get_or}
use Rattle.pb_board.specs.Refusal.{BreaksAt}
use Rattle.pb_board.proofs.Breaks.{KeepsFronts, all_middle, one_break, unbroken}

module _ {A : Type 0} where
  pub contains_head : (x : A) (xs : List A) → Contains (x ∷ xs) x
  contains_head x xs = (0, omega arith, refl)

  pub contains_there : (x : A) (xs : List A) (y : A) → Contains xs y → Contains (x ∷ xs) y
  contains_there x xs y h = (suc h.0, omega (arith, h.1), h.2)

  pub contains_none : (y : A) → Contains [] y → ⊥
  contains_none y h = omega (arith, h.1)

  contains_at : (x : A) (xs : List A) (y : A) (k : ℕ) → k < length (x ∷ xs) → get_or (x ∷ xs) k y ≡ y → (x ≡ y) ⊎ Contains xs y
  contains_at x xs y zero lt is = inl is
  contains_at x xs y (suc k) lt is = inr (k, omega (arith, lt), is)

  pub contains_cases : (x : A) (xs : List A) (y : A) → Contains (x ∷ xs) y → (x ≡ y) ⊎ Contains xs y
  contains_cases x xs y h = contains_at x xs y h.0 h.1 h.2

  -- what holds of each that is contained holds of all
  pub all_from_contains : (P : A → Type 0) (xs : List A) → ((x : A) → Contains xs x → P x) → All P xs
  all_from_contains P xs h k d lt = h (get_or xs k d) (Contains-get_or xs k d lt)

  pub pairs_none : (R : A → A → Type 0) → AllPairs R []
  pairs_none R i j d lt in_range = absurd (omega (arith, in_range))

  pub pairs_cons : (R : A → A → Type 0) (x : A) (xs : List A) → All (R x) xs → AllPairs R xs → AllPairs R (x ∷ xs)
  pairs_cons R x xs h k zero zero d lt in_range = absurd (omega (arith, lt))
  pairs_cons R x xs h k zero (suc j) d lt in_range = h j d (omega (arith, in_range))
  pairs_cons R x xs h k (suc i) zero d lt in_range = absurd (omega (arith, lt))
  pairs_cons R x xs h k (suc i) (suc j) d lt in_range = k i j d (omega (arith, lt)) (omega (arith, in_range))

  pub pairs_tail : (R : A → A → Type 0) (x : A) (xs : List A) → AllPairs R (x ∷ xs) → AllPairs R xs
  pairs_tail R x xs h i j d lt in_range = h (suc i) (suc j) d (omega (arith, lt)) (omega (arith, in_range))

  pub pairs_head : (R : A → A → Type 0) (x : A) (xs : List A) → AllPairs R (x ∷ xs) → All (R x) xs
  pairs_head R x xs h k d lt = h 0 (suc k) d (omega arith) (omega (arith, lt))

-- what a mapped list contains
module _ {A B : Type 0} (g : A → B) where
  pub contains_map : (xs : List A) (y : A) → Contains xs y → Contains (map g xs) (g y)
  contains_map [] y h = absurd (contains_none y h)
  contains_map (x ∷ xs) y h =
      elim (contains_cases x xs y h) [
        | inl same ↦ subst (λ z. Contains (map g (x ∷ xs)) (g z)) same (contains_head (g x) (map g xs))
        | inr there ↦ contains_there (g x) (map g xs) (g y) (contains_map xs y there)
      ]

  pub contains_unmap : (xs : List A) (z : B) → Contains (map g xs) z → (y : A) × Contains xs y × (g y ≡ z)
  contains_unmap [] z h = absurd (contains_none z h)
  contains_unmap (x ∷ xs) z h =
      elim (contains_cases (g x) (map g xs) z h) [
        | inl same ↦ (x, contains_head x xs, same)
        | inr there ↦ let m = contains_unmap xs z there in (m.0, contains_there x xs m.0 m.1, m.2)
      ]

  pub map_injective : ((x y : A) → g x ≡ g y → x ≡ y) → (xs ys : List A) → map g xs ≡ map g ys → xs ≡ ys
  map_injective one [] [] e = refl
  map_injective one [] (y ∷ ys) e = absurd cc
  map_injective one (x ∷ xs) [] e = absurd cc
  map_injective one (x ∷ xs) (y ∷ ys) e =
      let head : g x ≡ g y = cc in
      let tails : map g xs ≡ map g ys = cc in
      ap (λ w. w ∷ xs) (one x y head) ∙ ap (λ w. y ∷ w) (map_injective one xs ys tails)

module _ {A : Type 0} (R : A → A → Type 0) where
  pub pairs_split : (front : List A) (x : A) (back : List A) (y : A) → AllPairs R (front ++ x ∷ back) → Contains front y → R y x
  pairs_split [] x back y h k = absurd (contains_none y k)
  pairs_split (w ∷ front) x back y h k =
      elim (contains_cases w front y k) [
        | inl same ↦ subst (λ z. R z x) same (all_middle (R w) front x back (pairs_head R w (front ++ x ∷ back) h))
        | inr there ↦ pairs_split front x back y (pairs_tail R w (front ++ x ∷ back) h) there
      ]

  pairs_take : (xs : List A) (n : ℕ) → AllPairs R xs → AllPairs R (take n xs)
  pairs_take xs n h i j d less lt =
      let within : (j < n) × (j < length xs) = (omega (arith, lt, length-take n xs), omega (arith, lt, length-take n xs)) in
      rw (get_or-take n xs i d (omega (arith, less, within.0)), get_or-take n xs j d within.0) (h i j d less within.1)

  pairs_fronts : KeepsFronts (AllPairs R)
  pairs_fronts front back h = subst (AllPairs R) (take-append_seam front back) (pairs_take (front ++ back) (length front) h)

  -- a list that keeps the rule breaks it nowhere, and one that breaks it does so at one place
  pub pairs_unbroken : (xs : List A) (n : ℕ) → AllPairs R xs → ¬ BreaksAt (AllPairs R) xs n
  pairs_unbroken = unbroken (AllPairs R) pairs_fronts

  pub one_pairs_break : (xs : List A) (m n : ℕ) → BreaksAt (AllPairs R) xs m → BreaksAt (AllPairs R) xs n → m ≡ n
  one_pairs_break = one_break (AllPairs R) pairs_fronts
