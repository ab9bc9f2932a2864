use Rattle.pb_commands.specs.ProbeShown.{ProbesSources}
use Rattle.pb_commands.proofs.Stopping.{run_taken}
use Rattle.pb_commands.proofs.probe.run_probe.Goals as goal

pub returns : goal.returns
returns g c =
    let t = g.TableIn.Source.state in
    let b = g.BookIn.Source.state in
    run_taken (ProbesSources c.args.fills (t c.args.table_source.now) (t c.answer_probe-answer.new.table_source) (b c.args.book_source.now) (b c.answer_probe-answer.new.book_source) c.args.fen.now) _ _
    c.answer_probe-answer.result c.in_ok-unless_refused.field-0 c.is_some.result c.answer_probe-answer.ensures c.in_ok-unless_refused.ensures c.is_some.ensures
