-- The first of a list that is due.
use Rattle.std.proofs.Common.{◌≡◌, ℕ, ◌↔◌, ◌⊎◌, List, [], ◌∷◌, ◌++◌, length, refl, sym, ap, subst, ◌∙◌, inl, inr, arith}
use Rattle.std.specs.Prelude.{All, Contains, map}
use Rattle.std.proofs.lemmas.List.{append_assoc, length-append}
use Rattle.std.proofs.lemmas.List.Elements.{All-nil, All-cons, All-head, All-tail, All-append, All-contains, Contains-append_right}
use Rattle.pb_board.specs.declared.refusal.FenError.{FenError}
use Rattle.pb_board.specs.Refusal.{IsDueFen, IsFirstOf}

-- the first of these refusals that is due
abbrev pub IsFirstDue : List FenError → FenError → List (List ℕ) → Type 0
IsFirstDue errors e texts = IsFirstOf errors (IsDueFen texts) e

module _ {E : Type 0} (due : E → Type 0) where
  abbrev pub NotDue : E → Type 0
  NotDue d = ¬ due d

  pub first_here : (e : E) (xs : List E) → due e → IsFirstOf (e ∷ xs) due e
  first_here e xs h = ([], xs, refl, h, All-nil NotDue)

  pub first_later : (d e : E) (xs : List E) → NotDue d → IsFirstOf xs due e → IsFirstOf (d ∷ xs) due e
  first_later d e xs fine h = (d ∷ h.0, h.1, ap (λ w. d ∷ w) h.2, h.3, All-cons NotDue d h.0 fine h.4)

  cases_from : (d e : E) (xs before after : List E) → d ∷ xs ≡ before ++ e ∷ after → due e → All NotDue before → (d ≡ e) ⊎ (NotDue d × IsFirstOf xs due e)
  cases_from d e xs [] after are h none = inl (cc (are))
  cases_from d e xs (b ∷ before) after are h none =
      let same : d ≡ b = cc (are) in
      inr (
        subst NotDue (sym same) (All-head NotDue b before none),
        (before, after, cc (are), h, All-tail NotDue b before none),
      )

  first_cases : (d e : E) (xs : List E) → IsFirstOf (d ∷ xs) due e → (d ≡ e) ⊎ (NotDue d × IsFirstOf xs due e)
  first_cases d e xs h = cases_from d e xs h.0 h.1 h.2 h.3 h.4

  none_of_none : (e : E) → IsFirstOf [] due e → ⊥
  none_of_none e h = omega (arith, ap length h.2, length-append h.0 (e ∷ h.1))

  -- a list has one first that is due
  pub one_first : (xs : List E) (d e : E) → IsFirstOf xs due d → IsFirstOf xs due e → d ≡ e
  one_first [] d e h k = absurd (none_of_none d h)
  one_first (x ∷ xs) d e h k =
      elim (first_cases x d xs h) [
        | inl a ↦ elim (first_cases x e xs k) [ inl b ↦ sym a ∙ b | inr b ↦ absurd (b.0 (subst due (sym a) h.3)) ]
        | inr a ↦ elim (first_cases x e xs k) [ inl b ↦ absurd (a.0 (subst due (sym b) k.3)) | inr b ↦ one_first xs d e a.1 b.1 ]
      ]

  pub first_front : (xs ys : List E) (e : E) → IsFirstOf xs due e → IsFirstOf (xs ++ ys) due e
  first_front xs ys e h = (h.0, h.1 ++ ys, ap (λ w. w ++ ys) h.2 ∙ append_assoc h.0 (e ∷ h.1) ys, h.3, h.4)

  pub first_behind : (front xs : List E) (e : E) → All NotDue front → IsFirstOf xs due e → IsFirstOf (front ++ xs) due e
  first_behind front xs e none h =
      (front ++ h.0, h.1, ap (λ w. front ++ w) h.2 ∙ sym (append_assoc front h.0 (e ∷ h.1)), h.3, All-append NotDue front h.0 none h.4)

  pub none_first : (xs : List E) (e : E) → All NotDue xs → IsFirstOf xs due e → ⊥
  none_first xs e none h =
      All-contains NotDue xs e none (subst (λ w. Contains w e) (sym h.2) (Contains-append_right h.0 (e ∷ h.1) e (0, omega arith, refl))) h.3

-- where the same are due under other names
module _ {D E : Type 0} (g : D → E) (due : D → Type 0) (other : E → Type 0) where
  abbrev IsSame : D → Type 0
  IsSame d = due d ↔ other (g d)

  pub first_map : (xs : List D) (d : D) → All IsSame xs → IsFirstOf xs due d → IsFirstOf (map g xs) other (g d)
  first_map [] d same h = absurd (none_of_none due d h)
  first_map (x ∷ xs) d same h =
      elim (first_cases due x d xs h) [
        | inl is ↦
            subst (λ y. IsFirstOf (map g (x ∷ xs)) other (g y)) is
            (first_here other (g x) (map g xs) ((All-head IsSame x xs same).0 (subst due (sym is) h.3)))
        | inr later ↦
            first_later other (g x) (g d) (map g xs) (λ there. later.0 ((All-head IsSame x xs same).1 there)) (first_map xs d (All-tail IsSame x xs same) later.1)
      ]
