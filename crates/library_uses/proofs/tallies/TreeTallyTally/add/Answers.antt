use Rattle.std.proofs.Common.{rules, ◌+◌}
use Rattle.library_uses.specs.declared.tallies.Sum.{Sum}
use Rattle.pb_points.specs.Tally.{more}
use Rattle.library_uses.proofs.Sums.{changed}
use Rattle.library_uses.proofs.tallies.TreeTallyTally.add.Goals as goal

pub returns-in-Some : goal.returns-in-Some
returns-in-Some c =
    let w : Sum = record { points = c.in-Some.sum.now.points + c.args.points; times = c.in-Some.sum.now.times + 1 } in
    changed c.args.self.now.sums (c.get_mut.follows.lender w) c.args.key c.args.code w (more c.args.points) (search rules) ((c.get_mut.follows.holds w).3 (search rules))
