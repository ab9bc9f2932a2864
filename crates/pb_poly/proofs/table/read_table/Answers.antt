use Rattle.std.proofs.Common.{◌∙◌}
use Rattle.std.proofs.lemmas.Result.{err_from_is_err_and}
use Rattle.pb_io.specs.Lines.{lines}
use Rattle.pb_poly.proofs.Tables.{is_table, only_memory, randoms_are_one}
use Rattle.pb_poly.proofs.table.read_table.Goals as goal

pub returns-in_err-randoms-clause-only : goal.returns-in_err-randoms-clause-only
returns-in_err-randoms-clause-only c randoms text =
    let p = err_from_is_err_and c.from_residual.result c.from_residual.ensures.1 in
    rw (p.1, p.2) (only_memory randoms c.args.bytes.now c.in_err-randoms.field-0.0 text c.in_err-randoms.ensures.err)

pub invariant_of-result : goal.invariant_of-result
invariant_of-result c = rw c.in-Ok.ensures.items (is_table c.in_ok-randoms.randoms c.args.bytes.now c.in_ok-randoms.ensures.ok)

pub returns-in-Ok-clause-only : goal.returns-in-Ok-clause-only
returns-in-Ok-clause-only c randoms text =
    c.in-Ok.ensures.items ∙ randoms_are_one (lines c.args.bytes.now) c.in_ok-randoms.randoms randoms c.in_ok-randoms.ensures.ok.1 text.1

pub returns-in-Err-clause-refused : goal.returns-in-Err-clause-refused
returns-in-Err-clause-refused c = (c.in_ok-randoms.randoms, c.in_ok-randoms.ensures.ok)
