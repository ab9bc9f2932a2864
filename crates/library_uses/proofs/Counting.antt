-- Counting: a single one, those of two kinds, and lists that begin with one element.
use Rattle.std.proofs.Common.{◌≡◌, ◌≢◌, ℕ, ◌+◌, ◌-◌, ◌<◌, ◌≤◌, ◌⊎◌, ◌↔◌, List, [], ◌∷◌, ◌++◌, length, map, get_or, AllPairs, Contains, refl, ap, sym, subst, ◌∙◌, arith, inl, inr}
use Rattle.std.proofs.lemmas.Bool.{cases_lt}
use Rattle.std.proofs.lemmas.List.{get_or-append_right, get_or-map, get_or_append_left, length-append, length-map}
use Rattle.std.proofs.lemmas.List.Elements.{Contains-append_cases, Contains-append_left, Contains-append_right, Contains-get_or}
use Rattle.library_uses.specs.Perft.{Counts}

pub only_such : {X : Type 0} (Such : X → Type 0) (x : X) → Such x → ((y : X) → Such y → y ≡ x) → Counts Such 1
only_such Such x such only = record {
  list = x ∷ [];
  each = λ y. (
    (λ c. subst Such (ap (λ k. get_or (x ∷ []) k y) (let z : 0 ≡ c.0 = omega (arith, c.1) in z) ∙ c.2) such),
    (λ h. (0, omega arith, sym (only y h))),
  );
  once = λ i j d lt within. absurd (omega (arith, within));
  many = refl;
}

-- the same ones, told in another way
pub same_such : {X : Type 0} (A B : X → Type 0) (n : ℕ) → ((x : X) → A x ↔ B x) → Counts A n → Counts B n
same_such A B n same c = record {
  list = c.list;
  each = λ x. ((λ k. (same x).0 ((c.each x).0 k)), (λ h. (c.each x).1 ((same x).1 h)));
  once = c.once;
  many = c.many;
}

apart : {X : Type 0} (xs ys : List X) → AllPairs (λ a b. a ≢ b) xs → AllPairs (λ a b. a ≢ b) ys → ((x : X) → Contains xs x → ¬ Contains ys x) → AllPairs (λ a b. a ≢ b) (xs ++ ys)
apart xs ys one two cross i j d lt within =
    let all = length-append xs ys in
    let left = λ (k : ℕ) (h : k < length xs). get_or_append_left xs ys d k h in
    let right = λ (k : ℕ) (h : length xs ≤ k). get_or-append_right xs ys (length xs) k d refl h in
    elim (cases_lt j (length xs)) [
      | inl low ↦ (λ e. one i j d lt low (sym (left i (omega arith)) ∙ e ∙ left j low))
      | inr high ↦ elim (cases_lt i (length xs)) [
        | inl l ↦ (λ e. cross (get_or xs i d) (Contains-get_or xs i d l)
            (subst (Contains ys) (sym (right j high) ∙ sym e ∙ left i l) (Contains-get_or ys (j - length xs) d (omega arith))))
        | inr g ↦ (λ e. two (i - length xs) (j - length xs) d (omega arith) (omega arith) (sym (right i g) ∙ e ∙ right j high))
      ]
    ]

-- those of two kinds, where none is of both
pub both_kinds : {X : Type 0} (A B : X → Type 0) (n k : ℕ) → Counts A n → Counts B k → ((x : X) → A x → ¬ B x) → Counts (λ x. A x ⊎ B x) (n + k)
both_kinds A B n k a b apart_kinds = record {
  list = a.list ++ b.list;
  each = λ x. (
    (λ c. elim (Contains-append_cases a.list b.list x c) [ inl l ↦ inl ((a.each x).0 l) | inr r ↦ inr ((b.each x).0 r) ]),
    (λ h. elim h [ inl l ↦ Contains-append_left a.list b.list x ((a.each x).1 l) | inr r ↦ Contains-append_right a.list b.list x ((b.each x).1 r) ]),
  );
  once = apart a.list b.list a.once b.once (λ x l r. apart_kinds x ((a.each x).0 l) ((b.each x).0 r));
  many = omega (arith, length-append a.list b.list, a.many, b.many);
}

-- the lists that begin with m, and go on as one of these
pub begun_by : {X : Type 0} (m : X) (Such : List X → Type 0) (n : ℕ) → Counts Such n → Counts (λ xs. (rest : List X) × (xs ≡ m ∷ rest) × Such rest) n
begun_by {X} m Such n c = record {
  list = map f c.list;
  each = λ xs. (
    (λ k. let lt : k.0 < length c.list = omega (arith, k.1, length-map c.list f) in
        (get_or c.list k.0 [], sym k.2 ∙ get_or-map f c.list k.0 [] xs lt, (c.each _).0 (Contains-get_or c.list k.0 [] lt))),
    (λ h. let p = (c.each h.0).1 h.2 in
        (p.0, omega (arith, p.1, length-map c.list f), get_or-map f c.list p.0 h.0 xs p.1 ∙ ap f p.2 ∙ sym h.1)),
  );
  once = λ i j d lt within e.
      let all = length-map c.list f in
      let front : f (get_or c.list i []) ≡ f (get_or c.list j []) = sym (get_or-map f c.list i [] d (omega arith)) ∙ e ∙ get_or-map f c.list j [] d (omega arith) in
      c.once i j [] lt (omega arith) (cc);
  many = length-map c.list f ∙ c.many;
}
  where
    f : List X → List X
    f rest = m ∷ rest
