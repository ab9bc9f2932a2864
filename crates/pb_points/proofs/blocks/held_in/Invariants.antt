use Rattle.std.proofs.Common.{◌≡◌, take}
use Rattle.pb_points.specs.Bag.{points_of, times_of}
use Rattle.pb_points.proofs.blocks.held_in.Given as goal

abbrev pub invariant-loop-row : goal.invariant-loop-row
invariant-loop-row l = record { points : l.points ≡ points_of (take l.row-index l.rows) l.key l.code; times : l.times ≡ times_of (take l.row-index l.rows) l.key l.code }
