-- Runs of bytes of one kind at the front of a text.
use Rattle.std.proofs.Common.{◌≡◌, ℕ, ◌<◌, List, [], ◌∷◌, ◌++◌, length, take, drop, refl, sym, ap, subst, ◌∙◌, inl, inr, arith}
use Rattle.std.specs.Prelude.{All}
use Rattle.std.proofs.lemmas.Bool.{cases_lt}
use Rattle.std.proofs.lemmas.List.{drop_more, drop_all, length-take, get_or-take, get_or_default, take-append-drop}
use Rattle.std.proofs.lemmas.List.Elements.{All-head, All-tail}
use Rattle.pb_epd.specs.Run.{IsRun}

-- no byte of the kind begins the bytes
abbrev pub Stops : (ℕ → Type 0) → List ℕ → Type 0
Stops P [] = Unit {0}
Stops P (b ∷ bytes) = ¬ P b

-- a run that is as long as there is ends at one place
pub same_run : (P : ℕ → Type 0) (xs ys r s : List ℕ) → All P xs → All P ys → Stops P r → Stops P s → xs ++ r ≡ ys ++ s → (xs ≡ ys) × (r ≡ s)
same_run P [] [] r s a b h k e = (refl, e)
same_run P [] (y ∷ ys) r s a b h k e = absurd ((subst (Stops P) e h) (All-head P y ys b))
same_run P (x ∷ xs) [] r s a b h k e = absurd ((subst (Stops P) (sym e) k) (All-head P x xs a))
same_run P (x ∷ xs) (y ∷ ys) r s a b h k e =
    let heads : x ≡ y = cc in
    let tails : xs ++ r ≡ ys ++ s = cc in
    let more = same_run P xs ys r s (All-tail P x xs a) (All-tail P y ys b) h k tails in
    (ap (λ z. z ∷ xs) heads ∙ ap (λ w. y ∷ w) more.0, more.1)

module _ (P : ℕ → Type 0) (bytes : List ℕ) (n : ℕ) (h : IsRun P bytes n) where
  pub run_inside : All P (take n bytes)
  run_inside k d lt =
      let low : k < n = omega (arith, length-take n bytes, lt) in
      subst P (sym (get_or-take n bytes k d low ∙ get_or_default bytes k d 0 (omega (arith, h.fits)))) (h.inside k low)

  pub run_stops : Stops P (drop n bytes)
  run_stops =
      elim (cases_lt n (length bytes)) [
        | inl lt ↦ subst (Stops P) (sym (drop_more bytes n 0 lt)) (h.ends lt)
        | inr le ↦ subst (Stops P) (sym (drop_all n bytes le)) tt
      ]

  -- a run that begins the bytes is this one
  pub run_only : (xs r : List ℕ) → All P xs → Stops P r → bytes ≡ xs ++ r → (xs ≡ take n bytes) × (r ≡ drop n bytes)
  run_only xs r inside stops is = same_run P xs (take n bytes) r (drop n bytes) inside run_inside stops run_stops (sym is ∙ sym (take-append-drop n bytes))

  pub run_length : length (take n bytes) ≡ n
  run_length = omega (arith, length-take n bytes, h.fits)
