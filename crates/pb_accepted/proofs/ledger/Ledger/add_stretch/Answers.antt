use Rattle.std.proofs.Common.{◌≡◌, ◌++◌, ◌∙◌, List}
use Rattle.std.proofs.lemmas.Result.{IfOk-weaker}
use Rattle.pb_poly.specs.declared.book.Entry.{Entry}
use Rattle.pb_points.specs.TallyBook.{AddsBookOf, stretch_of}
use Rattle.pb_accepted.specs.Rules.{Basis}
use Rattle.pb_accepted.specs.Counting.{IsBook, counted, stretch}
use Rattle.pb_accepted.specs.Ledger.{rowed}
use Rattle.pb_accepted.proofs.BookStretches.{stretch_added}
use Rattle.pb_accepted.proofs.Rowed.{rowed_book}
use Rattle.pb_accepted.proofs.ledger.Ledger.add_stretch.Goals as goal

pub returns-clause-ok : goal.returns-clause-ok
returns-clause-ok g c =
    let inside = c.self.inside in
    let games = inside.games.entries in
    let T : Basis = record { randoms = inside.recorder.table; rules = inside.rules } in
    let content = g.T.Tally.content inside.tally in
    let least = c.from-least.ensures ∙ c.least.ensures.value in
    rw (← c.self.view_is)
    (IfOk-weaker c.add_stretch.result (λ next. AddsBookOf (stretch_of c.args.first next content) c.from-least.result c.args.entries.now.items c.add_stretch.new.entries.items)
    (λ next. (book : List Entry) × IsBook (counted T games) T.rules.least book × (c.add_stretch.new.entries.items ≡ c.args.entries.now.items ++ stretch c.args.first next book))
    (λ next adds.
    let added = stretch_added (rowed T.rules.least (counted T games)) T.rules.least c.args.first next content _ _ _ c.self.invariant.rules.counting.least.0 c.self.invariant.counts least adds in
    (added.0, rowed_book (counted T games) T.rules.least added.0 added.1, added.2))
    c.add_stretch.ensures.ok)
