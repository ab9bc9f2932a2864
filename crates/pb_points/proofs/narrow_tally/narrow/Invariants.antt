use Rattle.pb_points.specs.Blocks.{rows_of}
use Rattle.pb_points.proofs.NarrowedRows.{Narrowing}
use Rattle.pb_points.proofs.narrow_tally.narrow.Given as goal

abbrev pub invariant-loop-sum : goal.invariant-loop-sum
invariant-loop-sum l = Narrowing l.sums (rows_of l.rows) l.wide.items l.sum-index
