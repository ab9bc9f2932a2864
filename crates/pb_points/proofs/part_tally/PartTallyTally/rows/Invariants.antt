use Rattle.pb_points.proofs.PartRows.{Listing}
use Rattle.pb_points.proofs.part_tally.PartTallyTally.rows.Given as goal

abbrev pub invariant-loop-part : goal.invariant-loop-part
invariant-loop-part g l = Listing g.T.Tally.content l.self.parts.items l.rows.items l.part-index
