use Rattle.std.specs.Slice.Iter.{chunk_by_rest}
use Rattle.pb_points.specs.Group.{AddsBook}
use Rattle.pb_points.specs.Rows.{IsBelow, frequent, from}
use Rattle.pb_points.proofs.Groups.{IsSoFar}
use Rattle.pb_points.proofs.book.push_book.Given as goal

abbrev pub invariant-loop-group : goal.invariant-loop-group
invariant-loop-group l = IsSoFar IsBelow AddsBook (frequent l.fn.least (from l.fn.first l.fn.rows.items)) l.initial.entries.items l.entries.items (chunk_by_rest l.group-iterator)
