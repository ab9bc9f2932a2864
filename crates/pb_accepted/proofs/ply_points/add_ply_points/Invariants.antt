use Rattle.std.proofs.Common.{◌≡◌, vec_capacity}
use Rattle.pb_accepted.proofs.GivenPoints.{Added}
use Rattle.pb_accepted.proofs.ply_points.add_ply_points.Given as goal

abbrev pub invariant-loop-given : goal.invariant-loop-given
invariant-loop-given g l = record {
  added : Added l.least (g.T.Tally.content l.fn.tally) (g.T.Tally.content l.tally) l.fn.lost.items l.lost.items l.ply_points l.given-index;
  capacity : vec_capacity l.lost ≡ vec_capacity l.fn.lost;
}
