-- A stretch of the book, from what a tally holds of its keys.
use Rattle.std.proofs.Common.{◌≡◌, ℕ, ◌<◌, ◌≤◌, ◌↔◌, ◌++◌, Bool, true, cond, Option, None, Some, List, [], ◌∷◌, AllPairs, Contains, refl, ap, subst, ◌∙◌, inl, inr, arith}
use Rattle.std.specs.Prelude.{IfSome}
use Rattle.std.proofs.lemmas.Bool.{le-leb}
use Rattle.std.proofs.lemmas.List.{append-nil}
use Rattle.std.proofs.lemmas.List.Elements.{All-contains, Contains-append_cases, Contains-append_left, Contains-append_right, filter_passes}
use Rattle.std.proofs.lemmas.List.Kept.{AllPairs-filter}
use Rattle.pb_poly.specs.declared.book.Entry.{Entry}
use Rattle.pb_points.specs.declared.row.Row.{Row}
use Rattle.pb_points.specs.Rows.{IsBookOfRows, frequent}
use Rattle.pb_points.specs.Tally.{Content, held_of}
use Rattle.pb_points.specs.TallyBook.{AddsBookOf, is_within, stretch_of}
use Rattle.pb_points.specs.Weight.{Before}
use Rattle.pb_board.proofs.Elements.{contains_filter, within_filter}
use Rattle.pb_points.proofs.Groups.{AllPairs-append}
use Rattle.pb_points.proofs.Stretches.{above, before, held_within, in_either, in_first, in_second, none_within, stretched}
use Rattle.pb_accepted.specs.Counting.{IsBook, stretch}
use Rattle.pb_accepted.specs.Ledger.{Tallies}
use Rattle.pb_accepted.specs.declared.ply_points.PlyPoints.{PlyPoints}
use Rattle.pb_accepted.proofs.BookLaws.{before_both, before_itself}
use Rattle.pb_accepted.proofs.Books.{IsBookWithin, book_within}
use Rattle.pb_accepted.proofs.Frequent.{frequent_rows}
use Rattle.pb_board.proofs.InOrder.{same_in_order}
use Rattle.pb_accepted.proofs.SomeBooks.{some_book_of}

module _ (G : List PlyPoints) (least : ℕ) (first : ℕ) (next : Option ℕ) where
  -- whether an entry is in the stretch
  abbrev test : Entry → Bool
  test e = is_within first next e.key

  -- the entries of some keys are those of the book that pass the test
  is_stretch : (E F : List Entry) → IsBook G least E → IsBookWithin G least (λ k. is_within first next k ≡ true) F → F ≡ stretch first next E
  is_stretch E F book within = same_in_order Before before_itself before_both F (stretch first next E) within.ordered (AllPairs-filter Before test E book.ordered)
      (λ e here. let m = (within.members e).0 here in contains_filter test E e ((book.members e).1 (m.1, m.2, m.3, m.4)) m.0)
      (λ e here.
      let m = (book.members e).0 (within_filter test E e here) in
      (within.members e).1 (All-contains (λ q. test q ≡ true) (stretch first next E) e (filter_passes test E) here, m.0, m.1, m.2, m.3))

  pub stretch_added : (f : Content) (n : ℕ) (old new : List Entry) → 1 ≤ least → Tallies f G → n ≡ least → AddsBookOf (stretch_of first next f) n old new
      → (E : List Entry) × IsBook G least E × (new ≡ old ++ stretch first next E)
  stretch_added f n old new once counts is adds =
      let E = some_book_of G least once in
      let within = book_within G least f (frequent least adds.rows) (λ k. is_within first next k ≡ true) once counts each adds.book
      (subst (λ m. IsBookOfRows (frequent m adds.rows) adds.book) is adds.is) in
      (E.0, E.1, adds.added ∙ ap (λ l. old ++ l) (is_stretch E.0 adds.book E.1 within))
    where
      each : (r : Row) → Contains (frequent least adds.rows) r ↔ ((is_within first next r.key ≡ true) × (f r.key r.code ≡ Some (held_of r)) × (least ≤ r.times))
      each r = (
        λ h.
            let k = (frequent_rows least adds.rows r).0 h in
            let here = held_within f first next r.key r.code (held_of r) ((adds.are r).0 k.0) in
            (here.0, here.1, k.1),
        λ h. (frequent_rows least adds.rows r).1 ((adds.are r).1 (stretched f first next r.key r.code true h.0 ∙ h.1), h.2),
      )

-- ---- the stretches of a book, one after another

pub no_stretch : (E : List Entry) → stretch 0 (Some 0) E ≡ []
no_stretch [] = refl
no_stretch (e ∷ E) = ap (λ b. cond b (e ∷ stretch 0 (Some 0) E) (stretch 0 (Some 0) E)) (none_within e.key) ∙ no_stretch E

pub whole_stretch : (E : List Entry) → stretch 0 None E ≡ E
whole_stretch [] = refl
whole_stretch (e ∷ E) = ap (λ b. cond b (e ∷ stretch 0 None E) (stretch 0 None E)) (le-leb 0 e.key (omega arith)) ∙ ap (λ l. e ∷ l) (whole_stretch E)

module _ (G : List PlyPoints) (least : ℕ) (E : List Entry) (book : IsBook G least E) where
  ordered : (first : ℕ) (next : Option ℕ) → AllPairs Before (stretch first next E)
  ordered first next = AllPairs-filter Before (test G least first next) E book.ordered

  passes : (first : ℕ) (next : Option ℕ) (e : Entry) → Contains (stretch first next E) e → is_within first next e.key ≡ true
  passes first next e here = All-contains (λ q. is_within first next q.key ≡ true) (stretch first next E) e (filter_passes (test G least first next) E) here

  within : (first : ℕ) (next : Option ℕ) (e : Entry) → Contains (stretch first next E) e → Contains E e
  within first next = within_filter (test G least first next) E

  -- two stretches in a row are one
  pub joined_stretch : (first : ℕ) (next : Option ℕ) → IfSome next (λ n. first < n) → stretch 0 (Some first) E ++ stretch first next E ≡ stretch 0 next E
  joined_stretch first next onward = same_in_order Before before_itself before_both (stretch 0 (Some first) E ++ stretch first next E) (stretch 0 next E)
      (AllPairs-append Before (stretch 0 (Some first) E) (stretch first next E) (ordered 0 (Some first)) (ordered first next)
      (λ e f a b. inl (omega (arith, before 0 first e.key (passes 0 (Some first) e a), above first next f.key (passes first next f b)))))
      (ordered 0 next)
      (λ e here. elim (Contains-append_cases (stretch 0 (Some first) E) (stretch first next E) e here) [
        | inl a ↦ contains_filter (test G least 0 next) E e (within 0 (Some first) e a) (in_first first next e.key onward (passes 0 (Some first) e a))
        | inr b ↦ contains_filter (test G least 0 next) E e (within first next e b) (in_second first next e.key (passes first next e b))
      ])
      (λ e here. elim (in_either first next e.key (passes 0 next e here)) [
        | inl w ↦ Contains-append_left (stretch 0 (Some first) E) (stretch first next E) e (contains_filter (test G least 0 (Some first)) E e (within 0 next e here) w)
        | inr w ↦ Contains-append_right (stretch 0 (Some first) E) (stretch first next E) e (contains_filter (test G least first next) E e (within 0 next e here) w)
      ])

  -- those before a key are a front of the book
  pub front_stretch : (next : Option ℕ) → (rest : List Entry) × (stretch 0 next E ++ rest ≡ E)
  front_stretch None = ([], append-nil (stretch 0 None E) ∙ whole_stretch E)
  front_stretch (Some n) = (stretch n None E, joined_stretch n None tt ∙ whole_stretch E)
