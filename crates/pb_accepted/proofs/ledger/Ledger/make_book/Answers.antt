use Rattle.std.proofs.Common.{rules, ◌≡◌, ◌++◌, ap, sym, ◌∙◌, subst, AllPairs}
use Rattle.pb_points.specs.declared.row.Row.{Row}
use Rattle.pb_points.specs.Rows.{IsBookOfRows, frequent}
use Rattle.pb_points.specs.Weight.{Before}
use Rattle.pb_poly.proofs.EntryBytes.{none_falls}
use Rattle.pb_points.proofs.Groups.{NeverFall-ordered, ok_unless}
use Rattle.pb_accepted.specs.Rules.{Basis}
use Rattle.pb_accepted.specs.Counting.{IsBook, counted}
use Rattle.pb_accepted.specs.Ledger.{rowed}
use Rattle.pb_accepted.proofs.Books.{IsBook-rows}
use Rattle.pb_accepted.proofs.Frequent.{frequent_rows}
use Rattle.pb_accepted.proofs.Rowed.{rowed_book}
use Rattle.pb_accepted.proofs.ledger.Ledger.make_book.Goals as goal

pub unwrap-requires : goal.unwrap-requires
unwrap-requires g c =
    let adds = c.in_ok-add_book.ensures.ok in
    let entries = c.add_book.new.entries.items in
    let are : entries ≡ adds.book = adds.added ∙ ap (λ l. l ++ adds.book) c.new-entries.ensures.items in
    let ordered : AllPairs Before entries = subst (AllPairs Before) (sym are) adds.is.ordered in
    ok_unless _ _ c.of.result c.of.ensures (λ p f. none_falls entries p.0 (NeverFall-ordered entries ordered) f.1)

pub returns-clause-book : goal.returns-clause-book
returns-clause-book g c =
    let inside = c.self.inside in
    let games = inside.games.entries in
    let T : Basis = record { randoms = inside.recorder.table; rules = inside.rules } in
    let adds = c.in_ok-add_book.ensures.ok in
    let entries = c.add_book.new.entries.items in
    let are : entries ≡ adds.book = adds.added ∙ ap (λ l. l ++ adds.book) c.new-entries.ensures.items in
    let made : c.unwrap.result ≡ entries = search rules in
    let least = c.from-least.ensures ∙ c.least.ensures.value in
    let book : IsBookOfRows (frequent inside.rules.least adds.rows) adds.book = subst (λ n. IsBookOfRows (frequent n adds.rows) adds.book) least adds.is in
    let each : (r : Row) → _ = λ r. (
      (λ h. let k = (frequent_rows inside.rules.least adds.rows r).0 h in ((adds.are r).0 k.0, k.1)),
      (λ h. (frequent_rows inside.rules.least adds.rows r).1 ((adds.are r).1 h.0, h.1)),
    ) in
    rw (← c.self.view_is)
    (subst (IsBook (counted T games) T.rules.least) (sym (made ∙ are))
    (rowed_book (counted T games) T.rules.least adds.book
    (IsBook-rows (rowed T.rules.least (counted T games)) T.rules.least (g.T.Tally.content inside.tally) (frequent inside.rules.least adds.rows) c.self.invariant.rules.counting.least.0 c.self.invariant.counts each adds.book book)))
