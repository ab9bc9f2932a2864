use Rattle.std.proofs.Common.{arith, refl}
use Rattle.pb_accepted.proofs.GivenPoints.{Ensured-none}
use Rattle.pb_accepted.proofs.ply_points.make_room.Goals as goal

pub loop-given-init : goal.loop-given-init
loop-given-init g c = record { ensured = Ensured-none c.args.least (g.T.Tally.content c.args.tally.now) c.args.ply_points.now; counted = refl; few = omega arith }
