-- The elements of lists, and of those that pass a test.
use Rattle.std.proofs.Common.{◌≡◌, ℕ, zero, suc, ◌<◌, ◌⊎◌, Bool, true, false, ◌&&◌, cond, List, [], ◌∷◌, length, get_or, All, AllPairs, Contains, refl, sym, subst, inl, inr, arith}
use Rattle.std.specs.List.{filter}
use Rattle.std.proofs.lemmas.List.Elements.{All-contains, All-contains_itself, All-filter, Contains-get_or}

module _ {X : Type 0} where
  pub contains_cases : (x : X) (xs : List X) (z : X) → Contains (x ∷ xs) z → (x ≡ z) ⊎ Contains xs z
  contains_cases x xs z h = by h.0 h.1 h.2
    where
      by : (k : ℕ) → k < length (x ∷ xs) → get_or (x ∷ xs) k z ≡ z → (x ≡ z) ⊎ Contains xs z
      by zero lt e = inl e
      by (suc k) lt e = inr (k, omega arith, e)

  pub contains_head : (x : X) (xs : List X) → Contains (x ∷ xs) x
  contains_head x xs = (0, omega arith, refl)

  pub contains_tail : (x : X) (xs : List X) (z : X) → Contains xs z → Contains (x ∷ xs) z
  contains_tail x xs z h = (suc h.0, omega (arith, h.1), h.2)

  pub all_of : (P : X → Type 0) (xs : List X) → ((x : X) → Contains xs x → P x) → All P xs
  all_of P xs h = λ j d lt. h (get_or xs j d) (Contains-get_or xs j d lt)

  pub pairs_head : (R : X → X → Type 0) (x : X) (xs : List X) (z : X) → AllPairs R (x ∷ xs) → Contains xs z → R x z
  pairs_head R x xs z h c = subst (R x) c.2 (h 0 (suc c.0) z (omega arith) (omega (arith, c.1)))

  pub pairs_tail : (R : X → X → Type 0) (x : X) (xs : List X) → AllPairs R (x ∷ xs) → AllPairs R xs
  pairs_tail R x xs h i j d lt fits = h (suc i) (suc j) d (omega arith) (omega arith)

  pub within_filter : (p : X → Bool) (xs : List X) (x : X) → Contains (filter p xs) x → Contains xs x
  within_filter p xs x h =
      All-contains (Contains xs) (filter p xs) x (All-filter p (Contains xs) xs (All-contains_itself xs)) h

  pub contains_filter : (p : X → Bool) (xs : List X) (x : X) → Contains xs x → p x ≡ true → Contains (filter p xs) x
  contains_filter p [] x h is = h
  contains_filter p (y ∷ ys) x h is = by (p y) refl (λ later. contains_filter p ys x later is)
    where
      by : (b : Bool) → p y ≡ b → (Contains ys x → Contains (filter p ys) x) → Contains (cond (p y) (y ∷ filter p ys) (filter p ys)) x
      by true e rest = subst (λ b. Contains (cond b (y ∷ filter p ys) (filter p ys)) x) (sym e) (elim (contains_cases y ys x h) [
        | inl here ↦ subst (Contains (y ∷ filter p ys)) here (contains_head y (filter p ys))
        | inr later ↦ contains_tail y (filter p ys) x (rest later)
      ])
      by false e rest = subst (λ b. Contains (cond b (y ∷ filter p ys) (filter p ys)) x) (sym e) (elim (contains_cases y ys x h) [
        | inl here ↦ (let both : p y ≡ true = subst (λ z. p z ≡ true) (sym here) is in absurd (cc (both, e)))
        | inr later ↦ rest later
      ])

  -- what passes two tests, at once or one after the other
  pub filter_both : (p q : X → Bool) (xs : List X) → filter (λ x. p x && q x) xs ≡ filter q (filter p xs)
  filter_both p q [] = refl
  filter_both p q (x ∷ xs) = by (p x) (q x) refl (filter_both p q xs)
    where
      by : (b d : Bool) → q x ≡ d → filter (λ x. p x && q x) xs ≡ filter q (filter p xs) → cond (b && d) (x ∷ filter (λ x. p x && q x) xs) (filter (λ x. p x && q x) xs) ≡ filter q (cond b (x ∷ filter p xs) (filter p xs))
      by false d e rest = rest
      by true d e rest = λ i. cond (sym e i) (x ∷ rest i) (rest i)
