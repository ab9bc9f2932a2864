use Rattle.std.proofs.Common.{◌≡◌, ◌<◌, ◌≤◌, length}
use Rattle.pb_points.proofs.AddedRows.{InPlace}
use Rattle.pb_points.proofs.row.add_up.Given as goal

abbrev pub invariant-loop-index : goal.invariant-loop-index
invariant-loop-index l = record {
  before : l.last < l.index;
  within : l.last ≤ length l.rows.items;
  long : length l.rows.items ≡ length l.fn.rows.items;
  sums : 0 < length l.fn.rows.items → InPlace l.fn.rows.items l.rows.items l.last l.index;
}
