use Rattle.std.proofs.Common.{◌≡◌, drop}
use Rattle.pb_points.specs.Bag.{count_of}
use Rattle.pb_points.specs.Blocks.{rows_in}
use Rattle.pb_points.proofs.blocks.index_in.Given as goal

abbrev pub invariant-loop-block : goal.invariant-loop-block
invariant-loop-block l = count_of (rows_in (drop l.block l.blocks)) l.key l.code ≡ 0
