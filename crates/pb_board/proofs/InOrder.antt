-- Lists in a strict order, and what members make of them.
use Rattle.std.proofs.Common.{◌≡◌, ◌+◌, ◌⊎◌, List, [], ◌∷◌, ◌++◌, append-nil, length, Contains, AllPairs, refl, sym, ap, subst, ◌∙◌, inl, inr, arith}
use Rattle.std.proofs.lemmas.List.{length-append}
use Rattle.pb_board.proofs.Elements.{contains_cases, contains_head, contains_tail, pairs_head, pairs_tail}

module _ {X : Type 0} where
  pub none_in_nil : (z : X) → Contains [] z → ⊥
  none_in_nil z h = omega (arith, h.1)

  module _ (R : X → X → Type 0) where
    same_heads : ((x y : X) → R x y → R y x → ⊥) → (x y : X) (xs ys : List X) → AllPairs R (x ∷ xs) → AllPairs R (y ∷ ys) → Contains (y ∷ ys) x → Contains (x ∷ xs) y → x ≡ y
    same_heads asym x y xs ys h k to from = elim (contains_cases y ys x to) [
      | inl e ↦ sym e
      | inr below ↦ elim (contains_cases x xs y from) [
        | inl e ↦ e
        | inr above ↦ absurd (asym x y (pairs_head R x xs y h above) (pairs_head R y ys x k below))
      ]
    ]

    into_tail : ((x : X) → R x x → ⊥) → (x y z : X) (xs ys : List X) → AllPairs R (x ∷ xs) → x ≡ y → Contains xs z → Contains (y ∷ ys) z → Contains ys z
    into_tail irr x y z xs ys h heads here there = elim (contains_cases y ys z there) [
      | inl e ↦ absurd (irr z (subst (λ w. R w z) (heads ∙ e) (pairs_head R x xs z h here)))
      | inr later ↦ later
    ]

    -- the heads are one where the second list goes on only with what is above the first
    heads_one : ((x : X) → R x x → ⊥) → ((x y : X) → R x y → R y x → ⊥) → (x y : X) (xs ys : List X) → AllPairs R (x ∷ xs) → AllPairs R (y ∷ ys) → Contains (y ∷ ys) x → Contains (x ∷ xs) y ⊎ ((w : X) → Contains (x ∷ xs) w → R w y) → x ≡ y
    heads_one irr asym x y xs ys h k to (inl from) = same_heads asym x y xs ys h k to from
    heads_one irr asym x y xs ys h k to (inr above) = elim (contains_cases y ys x to) [
      | inl e ↦ sym e
      | inr below ↦ absurd (asym x y (above x (contains_head x xs)) (pairs_head R y ys x k below))
    ]

    -- a list in a strict order begins with another, whose members it has, where its others are
    -- above them
    pub begins_in_order : ((x : X) → R x x → ⊥) → ((x y : X) → R x y → R y x → ⊥) → (xs ys : List X) → AllPairs R xs → AllPairs R ys → ((z : X) → Contains xs z → Contains ys z)
        → ((z : X) → Contains ys z → Contains xs z ⊎ ((w : X) → Contains xs w → R w z)) → (rest : List X) × (ys ≡ xs ++ rest)
    begins_in_order irr asym [] ys h k to from = (ys, refl)
    begins_in_order irr asym (x ∷ xs) [] h k to from = absurd (none_in_nil x (to x (contains_head x xs)))
    begins_in_order irr asym (x ∷ xs) (y ∷ ys) h k to from =
        let heads = heads_one irr asym x y xs ys h k (to x (contains_head x xs)) (from y (contains_head y ys)) in
        let tails = begins_in_order irr asym xs ys (pairs_tail R x xs h) (pairs_tail R y ys k)
        (λ z c. into_tail irr x y z xs ys h heads c (to z (contains_tail x xs z c)))
        (λ z c. elim (from z (contains_tail y ys z c)) [
          | inl here ↦ inl (into_tail irr y x z ys xs k (sym heads) c here)
          | inr above ↦ inr (λ w d. above w (contains_tail x xs w d))
        ]) in
        (tails.0, (λ i. sym heads i ∷ tails.1 i))

    -- lists in a strict order with the same members are one
    pub same_in_order : ((x : X) → R x x → ⊥) → ((x y : X) → R x y → R y x → ⊥) → (xs ys : List X) → AllPairs R xs → AllPairs R ys → ((z : X) → Contains xs z → Contains ys z) → ((z : X) → Contains ys z → Contains xs z) → xs ≡ ys
    same_in_order irr asym xs ys h k to from =
        let longer = begins_in_order irr asym xs ys h k to (λ z c. inl (from z c)) in
        let shorter = begins_in_order irr asym ys xs k h from (λ z c. inl (to z c)) in
        by longer.0 shorter.0 longer.1 shorter.1
      where
        by : (more less : List X) → ys ≡ xs ++ more → xs ≡ ys ++ less → xs ≡ ys
        by [] less e f = sym (append-nil xs) ∙ sym e
        by (r ∷ more) less e f =
            let above : length ys ≡ length xs + length (r ∷ more) = ap length e ∙ length-append xs (r ∷ more) in
            let below : length xs ≡ length ys + length less = ap length f ∙ length-append ys less in
            absurd (omega (arith, above, below))
