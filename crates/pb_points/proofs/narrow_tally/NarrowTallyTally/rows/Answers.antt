use Rattle.std.proofs.Common.{Contains, ◌≡◌, ◌↔◌, Some}
use Rattle.std.proofs.lemmas.Result.{IfOk-weaker}
use Rattle.pb_points.specs.declared.row.Row.{Row}
use Rattle.pb_points.specs.Bag.{IsAddedUp, bag_content}
use Rattle.pb_points.specs.NarrowTally.{all_of}
use Rattle.pb_points.specs.Tally.{held_of}
use Rattle.pb_points.proofs.AddedRows.{added_each}
use Rattle.pb_points.proofs.narrow_tally.NarrowTallyTally.rows.Goals as goal

pub returns-clause-each : goal.returns-clause-each
returns-clause-each c =
    let rows = all_of c.args.self.now.rows c.args.self.now.wide in
    IfOk-weaker c.sums.result (λ v. IsAddedUp rows v.items) (λ v. (r : Row) → Contains v.items r ↔ (bag_content rows r.key r.code ≡ Some (held_of r)))
    (λ v added r. added_each rows v.items added r) c.sums.ensures
