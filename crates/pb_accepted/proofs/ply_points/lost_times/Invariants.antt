use Rattle.std.proofs.Common.{◌≡◌, take}
use Rattle.pb_accepted.specs.Counting.{times}
use Rattle.pb_accepted.proofs.ply_points.lost_times.Given as goal

abbrev pub invariant-loop-ply : goal.invariant-loop-ply
invariant-loop-ply l = l.count ≡ times (take l.ply-index l.lost) l.key l.code
