use Rattle.std.proofs.Common.{inl}
use Rattle.pb_commands.specs.Runs.{EndStates, states}
use Rattle.pb_commands.proofs.Headlines.{collected, headline}
use Rattle.pb_commands.proofs.collect.collect_into.Goals as goal

pub returns : goal.returns
returns g c =
    let e : EndStates =
    states g.Table.Source.state g.In.Source.state g.Out.Sink.state c.args.ends.now (record { table = c.make_ledger.new.table; lines = c.take_submissions-taken.new.lines; replies = c.take_submissions-taken.new.replies; watcher = c.take_submissions-taken.new.watcher }) in
    let taken = c.take_submissions-taken.result in
    let opened = c.in_ok-ledger.ensures in
    let run = collected c.args.rules c.args.fills e _ c.in_ok-ledger.ledger taken opened.0 opened.1 c.take_submissions-taken.ensures in
    inl (taken, (run, headline c.args.rules c.args.fills e taken run), c.keep_book.ensures)
