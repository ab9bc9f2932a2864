use Rattle.std.proofs.Common.{◌≡◌, ◌+◌, take}
use Rattle.pb_points.specs.Bag.{points_of, times_of}
use Rattle.pb_points.specs.Blocks.{rows_in}
use Rattle.pb_points.proofs.blocks.held_in_blocks.Given as goal

abbrev pub invariant-loop-block : goal.invariant-loop-block
invariant-loop-block l = record {
  points : l.points ≡ points_of l.blocks.last.items l.key l.code + points_of (rows_in (take l.block-index l.block-items)) l.key l.code;
  times : l.times ≡ times_of l.blocks.last.items l.key l.code + times_of (rows_in (take l.block-index l.block-items)) l.key l.code;
}
