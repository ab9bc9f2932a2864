use Rattle.std.proofs.Common.{◌≡◌, drop}
use Rattle.pb_points.specs.Bag.{count_of}
use Rattle.pb_points.proofs.blocks.index_of.Given as goal

abbrev pub invariant-loop-index : goal.invariant-loop-index
invariant-loop-index l = count_of (drop l.index l.rows) l.key l.code ≡ 0
