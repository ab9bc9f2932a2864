-- Byte order of opcodes: a set of operations has one list in that order.
use Rattle.std.proofs.Common.{◌≡◌, ◌≢◌, ℕ, ◌↔◌, List, [], ◌∷◌, get_or, refl, sym, ap, subst, ◌∙◌, inl, inr, arith}
use Rattle.std.specs.Prelude.{AllPairs, Contains}
use Rattle.std.proofs.lemmas.List.Elements.{All-contains}
use Rattle.pb_epd.specs.Operation.{Operation}
use Rattle.pb_epd.specs.ByteOrder.{IsBytesBelow}
use Rattle.pb_epd.proofs.Lists.{contains_head, contains_there, contains_none, contains_cases, pairs_head, pairs_tail}

pub below_itself : (xs : List ℕ) → IsBytesBelow xs xs → ⊥
below_itself [] h = h
below_itself (x ∷ xs) h = elim h [ inl lt ↦ omega (arith, lt) | inr k ↦ below_itself xs k.1 ]

pub both_below : (xs ys : List ℕ) → IsBytesBelow xs ys → IsBytesBelow ys xs → ⊥
both_below [] [] h k = h
both_below [] (y ∷ ys) h k = k
both_below (x ∷ xs) [] h k = h
both_below (x ∷ xs) (y ∷ ys) h k =
    elim h [
      | inl lt ↦ elim k [ inl gt ↦ omega (arith, lt, gt) | inr q ↦ omega (arith, lt, q.0) ]
      | inr p ↦ elim k [ inl gt ↦ omega (arith, p.0, gt) | inr q ↦ both_below xs ys p.1 q.1 ]
    ]

-- in byte order of their opcodes
abbrev pub InOrder : List Operation → Type 0
InOrder operations = AllPairs (λ o p. IsBytesBelow o.0 p.0) operations

pub distinct_in_order : (operations : List Operation) → InOrder operations → AllPairs (λ o p. o.0 ≢ p.0) operations
distinct_in_order operations h i j d lt in_range e = below_itself (get_or operations j d).0 (subst (λ w. IsBytesBelow w (get_or operations j d).0) e (h i j d lt in_range))

below_each : (o : Operation) (operations : List Operation) → InOrder (o ∷ operations) → (p : Operation) → Contains operations p → IsBytesBelow o.0 p.0
below_each o operations h p k = All-contains (λ (q : Operation). IsBytesBelow o.0 q.0) operations p (pairs_head (λ (q r : Operation). IsBytesBelow q.0 r.0) o operations h) k

abbrev HaveSame : List Operation → List Operation → Type 0
HaveSame xs ys = (o : Operation) → Contains xs o ↔ Contains ys o

heads_same : (o p : Operation) (os ps : List Operation) → InOrder (o ∷ os) → InOrder (p ∷ ps) → HaveSame (o ∷ os) (p ∷ ps) → o ≡ p
heads_same o p os ps h k same =
    elim (contains_cases p ps o ((same o).0 (contains_head o os))) [
      | inl is ↦ sym is
      | inr later ↦ elim (contains_cases o os p ((same p).1 (contains_head p ps))) [
        | inl is ↦ is
        | inr later_too ↦ absurd (both_below o.0 p.0 (below_each o os h p later_too) (below_each p ps k o later))
      ]
    ]

tail_has : (o : Operation) (os ps : List Operation) → InOrder (o ∷ os) → ((q : Operation) → Contains (o ∷ os) q → Contains (o ∷ ps) q) → (q : Operation) → Contains os q → Contains ps q
tail_has o os ps h has q k =
    elim (contains_cases o ps q (has q (contains_there o os q k))) [
      | inl is ↦ absurd (below_itself o.0 (subst (λ (w : Operation). IsBytesBelow o.0 w.0) (sym is) (below_each o os h q k)))
      | inr later ↦ later
    ]

pub same_in_order : (os ps : List Operation) → InOrder os → InOrder ps → HaveSame os ps → os ≡ ps
same_in_order [] [] h k same = refl
same_in_order [] (p ∷ ps) h k same = absurd (contains_none p ((same p).1 (contains_head p ps)))
same_in_order (o ∷ os) [] h k same = absurd (contains_none o ((same o).0 (contains_head o os)))
same_in_order (o ∷ os) (p ∷ ps) h k same =
    let head = heads_same o p os ps h k same in
    let k' : InOrder (o ∷ ps) = subst (λ w. InOrder (w ∷ ps)) (sym head) k in
    let same' : HaveSame (o ∷ os) (o ∷ ps) = subst (λ w. HaveSame (o ∷ os) (w ∷ ps)) (sym head) same in
    let tails = same_in_order os ps (pairs_tail (λ (q r : Operation). IsBytesBelow q.0 r.0) o os h) (pairs_tail (λ (q r : Operation). IsBytesBelow q.0 r.0) o ps k') (λ q. (
      tail_has o os ps h (λ r. (same' r).0) q,
      tail_has o ps os k' (λ r. (same' r).1) q,
    )) in
    ap (λ w. o ∷ w) tails ∙ ap (λ w. w ∷ ps) head
