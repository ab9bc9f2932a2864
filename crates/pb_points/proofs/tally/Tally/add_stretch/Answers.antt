use Rattle.pb_points.proofs.Stretches.{adds_of_rows, stretch_rows}
use Rattle.pb_points.proofs.tally.Tally.add_stretch.Goals as goal

pub returns-clause-ok : goal.returns-clause-ok
returns-clause-ok g c =
    adds_of_rows _ c.args.least _ _ _
    (stretch_rows (g.Self.Tally.content c.args.self.now) c.args.first c.in_ok-rows.field-0.items c.in_ok-rows.ensures.each)
    c.in_ok-push_book.ensures.ok
