use Rattle.std.proofs.Common.{◌≡◌, ◌≤◌, length, take}
use Rattle.pb_accepted.specs.Ledger.{lost}
use Rattle.pb_accepted.proofs.GivenPoints.{Ensured}
use Rattle.pb_accepted.proofs.ply_points.make_room.Given as goal

abbrev pub invariant-loop-given : goal.invariant-loop-given
invariant-loop-given g l = record {
  ensured : Ensured l.least (g.T.Tally.content l.fn.tally) (g.T.Tally.content l.tally) l.ply_points l.given-index;
  counted : l.count ≡ length (lost l.least (take l.given-index l.ply_points));
  few : l.count ≤ l.given-index;
}
