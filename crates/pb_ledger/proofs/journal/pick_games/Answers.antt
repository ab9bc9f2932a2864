use Rattle.std.proofs.Common.{rules, refl, Ok}
use Rattle.std.proofs.lemmas.Result.{err_from_is_err_and}
use Rattle.pb_ledger.proofs.Picked.{picked, puts_all, unflushed, until}
use Rattle.pb_ledger.proofs.journal.pick_games.Goals as goal

pub returns-in_err-take_lines-clause-fault : goal.returns-in_err-take_lines-clause-fault
returns-in_err-take_lines-clause-fault g c =
    let is = err_from_is_err_and c.from_residual.result c.from_residual.ensures.1 in
    let ends = until g.Out.Sink.state _ _ _ _ c.take_lines.new.task refl c.in_err-take_lines.field-0.0 c.in_err-take_lines.ensures.err in
    rw (is.1, is.2) (search rules)

pub returns-in_err-flush-clause-fault : goal.returns-in_err-flush-clause-fault
returns-in_err-flush-clause-fault g c =
    let is = err_from_is_err_and c.from_residual-in_err-flush.result c.from_residual-in_err-flush.ensures.1 in
    let all = puts_all g.Out.Sink.state _ _ _ _ c.take_lines.new.task refl (Ok tt) c.in_ok-take_lines.ensures.ok in
    let ends = unflushed g.Out.Sink.state _ _ _ _ c.take_lines.new.task refl _ all c.in_err-flush.field-0.0 c.in_err-flush.ensures in
    rw (is.1, is.2) (search rules)

pub returns-clause-ok : goal.returns-clause-ok
returns-clause-ok g c =
    let all = puts_all g.Out.Sink.state _ _ _ _ c.take_lines.new.task refl (Ok tt) c.in_ok-take_lines.ensures.ok in
    let ends = picked g.Out.Sink.state _ _ _ _ c.take_lines.new.task refl _ all c.in_ok-flush.field-0 c.in_ok-flush.ensures in
    search rules
