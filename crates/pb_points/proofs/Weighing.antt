-- The entries that rows give, one row after another.
use Rattle.std.proofs.Common.{◌≡◌, ℕ, ◌+◌, ◌<◌, ◌≤◌, ◌↔◌, List, [], ◌∷◌, ◌++◌, take, drop, length, get_or, All, AllPairs, Any, Contains, sym, ap, subst, ◌∙◌, inl, inr, arith, append_assoc}
use Rattle.std.proofs.Math.Seq.{drop-append_seam, take-append_seam, take-length}
use Rattle.std.proofs.lemmas.Bool.{cases_lt}
use Rattle.std.proofs.lemmas.List.{get_or-take, length-take-le, take-append-drop, take_more}
use Rattle.std.proofs.lemmas.List.Elements.{Contains-append_left, Contains-get_or, Contains-push, Contains-push_cases}
use Rattle.std.proofs.lemmas.List.Quantifiers.{all_pairs_push}
use Rattle.std.proofs.lemmas.List.Sorted.{IsPermutation-sym, Contains-permutation}
use Rattle.pb_poly.specs.declared.book.Entry.{Entry}
use Rattle.pb_points.specs.declared.row.Row.{Row}
use Rattle.pb_points.specs.Group.{AddsBook, IsEntryGroup, IsGroup, Orders, entry_with}
use Rattle.pb_points.specs.Rows.{Gives, IsBelow, IsBookOfRows, IsTop, row_at}
use Rattle.pb_points.specs.Weight.{scaled}
use Rattle.pb_points.proofs.Tops.{All-Contains, IsTop-unique, index_of_row, row_0}

-- the entries are those that the first n rows give
pub record AreWeighed (rows : List Row) (n : ℕ) (entries : List Entry) : Type 0 where
  pub group : IsEntryGroup entries
  pub members : (e : Entry) → Contains entries e ↔ ((r : Row) × Contains (take n rows) r × Gives rows r e)

-- a row gives one entry
pub Gives-unique : (rows : List Row) (r : Row) (e f : Entry) → Gives rows r e → Gives rows r f → e ≡ f
Gives-unique rows r e f g h =
    let same = IsTop-unique rows r.key g.greatest h.greatest g.top h.top in
    let key = g.key ∙ sym h.key in
    let code = g.code ∙ sym h.code in
    let weight = g.weight ∙ ap (scaled r.points) same ∙ sym h.weight in
    let learn = g.learn ∙ sym h.learn in
    λ j. record { key = key j; code = code j; weight = weight j; learn = learn j }

-- rows of one key have that of each
pub keys_agree : (rows : List Row) → AllPairs (λ r s. r.key ≡ s.key) rows → (r s : Row) → Contains rows r → Contains rows s → r.key ≡ s.key
keys_agree rows one r s h k =
    let p = index_of_row rows r h in
    let q = index_of_row rows s k in
    ap (λ (x : Row). x.key) (sym p.2) ∙ by_index p.0 q.0 p.1 q.1 ∙ ap (λ (x : Row). x.key) q.2
  where
    by_index : (i j : ℕ) → i < length rows → j < length rows → (row_at rows i).key ≡ (row_at rows j).key
    by_index i j lt within = elim (cases_lt i j) [
      | inl up ↦ one i j row_0 up within
      | inr le ↦ elim (cases_lt j i) [
        | inl down ↦ sym (one j i row_0 down lt)
        | inr ge ↦ let e : i ≡ j = omega arith in ap (λ m. (row_at rows m).key) e
      ]
    ]

module _ (rows : List Row) (group : IsGroup IsBelow rows) where
  -- the greatest points of all rows are those of their key
  pub group_top : (M : ℕ) → All (λ r. r.points ≤ M) rows → Any (λ r. r.points ≡ M) rows → (r : Row) → Contains rows r → IsTop rows r.key M
  group_top M above met r h = record {
    above = λ s k e. All-Contains (λ s. s.points ≤ M) rows above s k;
    met = let there : Contains rows met.1 = (met.0, met.2, met.3) in (met.1, there, keys_agree rows group.one met.1 r there h, met.4);
  }

  module _ (i : ℕ) (lt : i < length rows) (entries : List Entry) (h : AreWeighed rows i entries) where
    more : take (i + 1) rows ≡ take i rows ++ row_at rows i ∷ []
    more = take_more rows i row_0 lt

    -- an entry before comes from a row of the same key and a lower code
    earlier : (e f : Entry) → Contains entries f → Gives rows (row_at rows i) e → (f.key ≡ e.key) × (f.code < e.code)
    earlier e f there g =
        let w = (h.members f).0 there in
        let p = index_of_row (take i rows) w.0 w.1 in
        let within : p.0 < i = omega (arith, p.1, length-take-le i rows (omega arith)) in
        let is : row_at rows p.0 ≡ w.0 = sym (get_or-take i rows p.0 row_0 within) ∙ p.2 in
        let key : w.0.key ≡ (row_at rows i).key = ap (λ (x : Row). x.key) (sym is) ∙ group.one p.0 i row_0 within lt in
        let code : w.0.code < (row_at rows i).code = subst (λ (x : Row). x.code < (row_at rows i).code) is
        (elim (group.ordered p.0 i row_0 within lt) [ inl up ↦ absurd (omega (arith, group.one p.0 i row_0 within lt)) | inr low ↦ low.1 ]) in
        (w.2.key ∙ key ∙ sym g.key, omega (arith, code, w.2.code, g.code))

    weighed_push : (e : Entry) → Gives rows (row_at rows i) e → AreWeighed rows (i + 1) (entries ++ e ∷ [])
    weighed_push e g = record {
      group = all_pairs_push (λ e f. (e.key ≡ f.key) × (e.code < f.code)) entries e h.group (λ k d within. earlier e (get_or entries k d) (Contains-get_or entries k d within) g);
      members = λ x. (
        (λ here. elim (Contains-push_cases entries e x here) [
          | inl old ↦ let w = (h.members x).0 old in (w.0, subst (λ l. Contains l w.0) (sym more) (Contains-append_left (take i rows) (row_at rows i ∷ []) w.0 w.1), w.2)
          | inr new ↦ (row_at rows i, subst (λ l. Contains l (row_at rows i)) (sym more) (Contains-push (take i rows) (row_at rows i)), subst (Gives rows (row_at rows i)) new g)
        ]),
        (λ w. elim (Contains-push_cases (take i rows) (row_at rows i) w.0 (subst (λ l. Contains l w.0) more w.1)) [
          | inl old ↦ Contains-append_left entries (e ∷ []) x ((h.members x).1 (w.0, old, w.2))
          | inr new ↦ subst (Contains (entries ++ e ∷ [])) (Gives-unique rows w.0 e x (subst (λ r. Gives rows r e) new g) w.2) (Contains-push entries e)
        ]),
      );
    }

    weighed_keep : ((e : Entry) → Gives rows (row_at rows i) e → ⊥) → AreWeighed rows (i + 1) entries
    weighed_keep none = record {
      group = h.group;
      members = λ x. (
        (λ here. let w = (h.members x).0 here in (w.0, subst (λ l. Contains l w.0) (sym more) (Contains-append_left (take i rows) (row_at rows i ∷ []) w.0 w.1), w.2)),
        (λ w. elim (Contains-push_cases (take i rows) (row_at rows i) w.0 (subst (λ l. Contains l w.0) more w.1)) [
          | inl old ↦ (h.members x).1 (w.0, old, w.2)
          | inr new ↦ absurd (none x (subst (λ r. Gives rows r x) (sym new) w.2))
        ]),
      );
    }

-- the entry of a row is what it gives
gives_weighed : (rows : List Row) (r : Row) (M : ℕ) (e : Entry) → IsTop rows r.key M → (1 ≤ e.weight) × (e ≡ entry_with r (scaled r.points M)) → Gives rows r e
gives_weighed rows r M e top h = record {
  greatest = M;
  top = top;
  key = ap (λ (f : Entry). f.key) h.1;
  code = ap (λ (f : Entry). f.code) h.1;
  weight = ap (λ (f : Entry). f.weight) h.1;
  some = h.0;
  learn = ap (λ (f : Entry). f.learn) h.1;
}

-- a row of weight 0 gives nothing
gives_none : (rows : List Row) (r : Row) (M : ℕ) → IsTop rows r.key M → scaled r.points M ≡ 0 → (e : Entry) → Gives rows r e → ⊥
gives_none rows r M top zero e g =
    let same = IsTop-unique rows r.key g.greatest M g.top top in
    let weight : e.weight ≡ 0 = g.weight ∙ ap (scaled r.points) same ∙ zero in
    omega (arith, g.some, weight)

-- the weighed entries in a book's order are the book
IsBookOfRows-ordered : (rows : List Row) (entries ordered : List Entry) → AreWeighed rows (length rows) entries → Orders entries ordered → IsBookOfRows rows ordered
IsBookOfRows-ordered rows entries ordered h o = record {
  ordered = o.ordered;
  members = λ x. (
    (λ here. let w = (h.members x).0 (Contains-permutation ordered entries x (IsPermutation-sym entries ordered o.permutation) here) in (w.0, subst (λ l. Contains l w.0) (take-length rows) w.1, w.2)),
    (λ w. Contains-permutation entries ordered x o.permutation ((h.members x).1 (w.0, subst (λ l. Contains l w.0) (sym (take-length rows)) w.1, w.2))),
  );
}

-- ---- entries behind those that stood before

-- the first n rows were weighed behind the old entries
pub record AddsWeighed (rows : List Row) (n : ℕ) (old new : List Entry) : Type 0 where
  pub added : List Entry
  pub split : new ≡ old ++ added
  pub weighed : AreWeighed rows n added

module _ (rows : List Row) (group : IsGroup IsBelow rows) (i : ℕ) (lt : i < length rows) (M : ℕ) (top : IsTop rows (row_at rows i).key M) (old new : List Entry) (h : AddsWeighed rows i old new) where
  -- the next row's entry was added
  pub adds_push : (e : Entry) → (1 ≤ e.weight) × (e ≡ entry_with (row_at rows i) (scaled (row_at rows i).points M)) → AddsWeighed rows (i + 1) old (new ++ e ∷ [])
  adds_push e is = record {
    added = h.added ++ e ∷ [];
    split = ap (λ l. l ++ e ∷ []) h.split ∙ append_assoc old h.added (e ∷ []);
    weighed = weighed_push rows group i lt h.added h.weighed e (gives_weighed rows (row_at rows i) M e top is);
  }

  -- the next row has no entry
  pub adds_keep : scaled (row_at rows i).points M ≡ 0 → AddsWeighed rows (i + 1) old new
  adds_keep zero = record { added = h.added; split = h.split; weighed = weighed_keep rows group i lt h.added h.weighed (gives_none rows (row_at rows i) M top zero) }

-- the entries behind the old ones, in a book's order, are the book
pub adds_book : (rows : List Row) (old new ordered : List Entry) (start : ℕ) → start ≡ length old → AddsWeighed rows (length rows) old new
    → take start ordered ≡ take start new → Orders (drop start new) (drop start ordered) → AddsBook rows old ordered
adds_book rows old new ordered start at h kept o = (
  drop start ordered,
  sym (take-append-drop start ordered) ∙ ap (λ l. l ++ drop start ordered) (kept ∙ front),
  IsBookOfRows-ordered rows h.added (drop start ordered) h.weighed (subst (λ l. Orders l (drop start ordered)) back o),
)
  where
    front : take start new ≡ old
    front = (λ i. take (at i) (h.split i)) ∙ take-append_seam old h.added

    back : drop start new ≡ h.added
    back = (λ i. drop (at i) (h.split i)) ∙ drop-append_seam old h.added
