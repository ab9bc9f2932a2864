use Rattle.std.proofs.Common.{ap, arith}
use Rattle.std.proofs.lemmas.List.{take_all}
use Rattle.pb_points.specs.Bag.{points_of, times_of}
use Rattle.pb_points.proofs.blocks.held_in.Goals as goal

pub returns : goal.returns
returns c =
    let all = take_all c.loop-row.row-index c.args.rows.now c.loop-row-test.false in
    let sum = c.loop-row.invariant in record {
      points = omega (arith, sum.points, ap (λ l. points_of l c.args.key c.args.code) all);
      times = omega (arith, sum.times, ap (λ l. times_of l c.args.key c.args.code) all);
    }
