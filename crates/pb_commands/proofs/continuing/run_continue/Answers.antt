use Rattle.std.proofs.Common.{◌≡◌, None, Ok, Some, refl}
use Rattle.pb_commands.specs.Judged.{unless_refused}
use Rattle.pb_io.specs.Source.{SourceState}
use Rattle.pb_commands.specs.Runs.{Change, EndStates, between}
use Rattle.pb_commands.proofs.ContinueHeadlines.{continued_so, headline}
use Rattle.pb_commands.proofs.Taking.{was_made, was_refused}
use Rattle.pb_commands.proofs.continuing.run_continue.Goals as goal

pub returns-in_default : goal.returns-in_default
returns-in_default g c =
    let is : unless_refused c.load_first-began.result ≡ Ok None = cc (c.in_ok-ledger.ensures, c.in_default.is) in
    let h = was_refused c.load_first-began.result is in (h.0, ((rw h.1 at c.load_first-began.ensures, refl), tt))

pub returns : goal.returns
returns g c =
    let e : EndStates = record {
      table = between g.Table.Source.state c.args.table_source.now c.load_first-began.new.table;
      lines = between g.In.Source.state c.args.source.now c.take_submissions-taken.new.lines;
      replies = between g.Out.Sink.state c.args.sink.now c.take_submissions-taken.new.replies;
    } in
    let earlier : Change SourceState = between g.Saved.Source.state c.args.saved.now c.load_first-began.new.saved in
    let is : unless_refused c.load_first-began.result ≡ Ok (Some c.in-Some.ledger) = cc (c.in_ok-ledger.ensures, c.in-Some.is) in
    let began = rw (was_made c.load_first-began.result c.in-Some.ledger is) at c.load_first-began.ensures in
    let run = continued_so c.args.rules c.args.fills e earlier _ c.in-Some.ledger c.take_submissions-taken.result began.0 began.1 c.take_submissions-taken.ensures in
    (c.take_submissions-taken.result, (run, headline c.args.rules c.args.fills e earlier c.take_submissions-taken.result run), (refl, c.book_of-book.ensures))
