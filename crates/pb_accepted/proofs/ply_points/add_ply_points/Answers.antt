use Rattle.std.proofs.Common.{arith, refl, subst, sym, ◌∙◌}
use Rattle.pb_points.specs.Tally.{HasRoomFor, held}
use Rattle.pb_accepted.proofs.GivenPoints.{Added-fits, Added-none, given_at, lost_fits}
use Rattle.pb_accepted.proofs.ply_points.add_ply_points.Goals as goal

pub loop-given-init : goal.loop-given-init
loop-given-init g c = record {
  added = Added-none c.args.least (g.T.Tally.content c.args.tally.now) c.args.lost.now.items c.args.ply_points.now c.requires.rows;
  capacity = refl;
}

pub push_reserved-requires : goal.push_reserved-requires
push_reserved-requires g c =
    let most = lost_fits c.args.least c.args.lost.now.items c.loop-given.lost.items c.args.ply_points.now c.loop-given.given-index c.loop-given-test.true (sym c.is_lost.ensures ∙ c.if-is_lost.true)
    c.loop-given.invariant.added.beside in
    omega (arith, most, c.requires.room, c.loop-given.invariant.capacity)

pub add-requires-clause-fits : goal.add-requires-clause-fits
add-requires-clause-fits g c =
    let content = g.T.Tally.content in
    let ply_points = c.args.ply_points.now in
    let i = c.loop-given.given-index in
    subst (λ n. HasRoomFor (held (content c.loop-given.tally) (given_at ply_points i).key (given_at ply_points i).code) n) (sym c.from.ensures)
    (Added-fits c.args.least (content c.args.tally.now) (content c.loop-given.tally) c.args.lost.now.items c.loop-given.lost.items ply_points i c.loop-given-test.true c.requires.small c.requires.points_fit c.requires.times_fit
    c.loop-given.invariant.added)
