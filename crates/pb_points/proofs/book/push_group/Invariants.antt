use Rattle.pb_points.proofs.Weighing.{AddsWeighed}
use Rattle.pb_points.proofs.book.push_group.Given as goal

abbrev pub invariant-loop-row : goal.invariant-loop-row
invariant-loop-row l = AddsWeighed l.group l.row-index l.initial.entries.items l.entries.items
