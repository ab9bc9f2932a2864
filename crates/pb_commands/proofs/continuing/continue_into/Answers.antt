use Rattle.std.proofs.Common.{inl}
use Rattle.pb_commands.specs.Runs.{Change, EndStates, between, states}
use Rattle.pb_io.specs.Source.{SourceState}
use Rattle.pb_commands.proofs.ContinueHeadlines.{continued_so, headline}
use Rattle.pb_commands.proofs.continuing.continue_into.Goals as goal

pub returns : goal.returns
returns g c =
    let e : EndStates =
    states g.Table.Source.state g.In.Source.state g.Out.Sink.state c.args.ends.now (record { table = c.load_first.new.table; lines = c.take_submissions-taken.new.lines; replies = c.take_submissions-taken.new.replies; watcher = c.take_submissions-taken.new.watcher }) in
    let saved : Change SourceState = between g.Saved.Source.state c.args.ledger.now.saved c.load_first.new.saved in
    let taken = c.take_submissions-taken.result in
    let began = c.in_ok-began.ensures in
    let run = continued_so c.args.rules c.args.fills e saved _ c.in_ok-began.began taken began.0 began.1 c.take_submissions-taken.ensures in
    inl (taken, (run, headline c.args.rules c.args.fills e saved taken run), c.keep_both.ensures)
