use Rattle.std.proofs.Common.{refl}
use Rattle.std.proofs.lemmas.Result.{err_from_is_err_and}
use Rattle.pb_commands.specs.declared.stop.Refused.TheVariants.{Table}
use Rattle.pb_commands.proofs.Taking.{found_so, no_ledger, stops_told}
use Rattle.pb_commands.proofs.run.make_ledger.Goals as goal

pub returns-in_err-table : goal.returns-in_err-table
returns-in_err-table g c =
    let p = err_from_is_err_and c.from_residual.result c.from_residual.ensures.1 in
    let h = stops_told Table c.take_table.result c.map_err.result _ _ _ refl c.in_err-table.field-0.0 c.map_err.ensures.cases c.in_err-table.ensures in
    rw (p.1, p.2) (h.0, rw h.1 at c.take_table.ensures.reads, h.2)

pub returns-in_err-with_rules : goal.returns-in_err-with_rules
returns-in_err-with_rules g c =
    let p = err_from_is_err_and c.from_residual-in_err-with_rules.result c.from_residual-in_err-with_rules.ensures.1 in
    let found = found_so Table c.take_table.result c.map_err.result c.in_ok-table.table c.map_err.ensures.cases c.in_ok-table.ensures.0 in
    rw (p.1, p.2) (no_ledger _ _ _ _ _ c.in_ok-table.table (rw found at c.take_table.ensures.reads) c.in_ok-table.ensures.1)

pub returns : goal.returns
returns g c =
    let found = found_so Table c.take_table.result c.map_err.result c.in_ok-table.table c.map_err.ensures.cases c.in_ok-table.ensures.0 in
    ((c.in_ok-table.table, rw found at c.take_table.ensures.reads, c.in_ok-with_rules.ensures.counting, c.in_ok-with_rules.ensures.empty), c.in_ok-table.ensures.1)
