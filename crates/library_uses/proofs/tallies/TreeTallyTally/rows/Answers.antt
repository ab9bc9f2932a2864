use Rattle.std.proofs.Common.{AllPairs, Contains, ◌↔◌, ◌≡◌, Some, sym, subst}
use Rattle.std.proofs.lemmas.Result.{IfOk-weaker}
use Rattle.pb_points.specs.Rows.{IsBelow}
use Rattle.pb_points.specs.Tally.{held_of}
use Rattle.library_uses.proofs.Sums.{content, each_row, rows_rise}
use Rattle.library_uses.proofs.tallies.TreeTallyTally.rows.Goals as goal

pub returns-clause-order : goal.returns-clause-order
returns-clause-order c = IfOk-weaker c.listed.result _ _
    (λ v is. subst (AllPairs IsBelow) (sym is) (rows_rise c.args.self.now.sums c.listed.ensures.ordered)) c.listed.ensures.rows

pub returns-clause-each : goal.returns-clause-each
returns-clause-each c = IfOk-weaker c.listed.result _ _
    (λ v is r. subst (λ rows. Contains rows r ↔ (content c.args.self.now.sums r.key r.code ≡ Some (held_of r))) (sym is) (each_row c.args.self.now.sums c.listed.ensures.ordered r)) c.listed.ensures.rows
