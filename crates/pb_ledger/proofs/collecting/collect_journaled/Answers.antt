use Rattle.std.proofs.Common.{rules}
use Rattle.std.proofs.lemmas.Result.{err_from_is_err_and}
use Rattle.pb_ledger.proofs.Collected.{all_taken, collected, unflushed, until, until_left}
use Rattle.pb_ledger.proofs.collecting.collect_journaled.Goals as goal

pub returns-in_err-take_lines-clause-fault : goal.returns-in_err-take_lines-clause-fault
returns-in_err-take_lines-clause-fault g c =
    let is = err_from_is_err_and c.from_residual.result c.from_residual.ensures.1 in
    let ends = until g.Out.Sink.state g.Journal.Sink.state _ _ _ _ c.take_lines.new.task c.in_err-take_lines.field-0.0 c.in_err-take_lines.ensures.err in
    rw (is.1, is.2) (until_left g.Out.Sink.state g.Journal.Sink.state _ _ _ _ c.take_lines.new.task _ _ _ (search rules) (search rules) (search rules) _ ends)

pub returns-in_err-flush-clause-fault : goal.returns-in_err-flush-clause-fault
returns-in_err-flush-clause-fault g c =
    let is = err_from_is_err_and c.from_residual-in_err-flush.result c.from_residual-in_err-flush.ensures.1 in
    let all = all_taken g.Out.Sink.state g.Journal.Sink.state _ _ _ _ c.take_lines.new.task c.in_ok-take_lines.ensures.ok in
    let same = all.done.same in
    rw (is.1, is.2) (unflushed g.Out.Sink.state g.Journal.Sink.state _ _ _ _ c.take_lines.new.task _ _ _ (search rules) (search rules) (search rules) all _ c.in_err-flush.field-0.0 c.in_err-flush.ensures)

pub returns-clause-ok : goal.returns-clause-ok
returns-clause-ok g c =
    let all = all_taken g.Out.Sink.state g.Journal.Sink.state _ _ _ _ c.take_lines.new.task c.in_ok-take_lines.ensures.ok in
    let same = all.done.same in
    collected g.Out.Sink.state g.Journal.Sink.state _ _ _ _ c.take_lines.new.task _ _ _ (search rules) (search rules) (search rules) all _ c.in_ok-flush.field-0 c.ranges.fills.fits (search rules) c.in_ok-flush.ensures
