use Rattle.std.proofs.Common.{◌≡◌, Ok, Some, inr}
use Rattle.std.proofs.lemmas.Result.{err_from_is_err_and}
use Rattle.pb_commands.specs.Judged.{unless_refused}
use Rattle.pb_commands.specs.Runs.{EndStates, between}
use Rattle.pb_commands.proofs.Headlines.{collected, headline}
use Rattle.pb_commands.proofs.Taking.{was_made}
use Rattle.pb_commands.proofs.collect.run_collect.Goals as goal

pub returns-in_err-book_of : goal.returns-in_err-book_of
returns-in_err-book_of g c =
    let e : EndStates = record {
      table = between g.Table.Source.state c.args.table_source.now c.make_ledger.new.table;
      lines = between g.In.Source.state c.args.source.now c.take_submissions-taken.new.lines;
      replies = between g.Out.Sink.state c.args.sink.now c.take_submissions-taken.new.replies;
    } in
    let is : unless_refused c.make_ledger.result ≡ Ok (Some c.in-Some.ledger) = cc (c.in_ok-ledger.ensures, c.in-Some.is) in
    let opened = rw (was_made c.make_ledger.result c.in-Some.ledger is) at c.make_ledger.ensures in
    let run = collected c.args.rules c.args.fills e _ c.in-Some.ledger c.take_submissions-taken.result opened.0 opened.1 c.take_submissions-taken.ensures in
    let p = err_from_is_err_and c.from_residual-in_err-book_of.result c.from_residual-in_err-book_of.ensures.1 in
    rw (p.1, p.2) (inr (c.take_submissions-taken.result, (run, headline c.args.rules c.args.fills e c.take_submissions-taken.result run), c.in_err-book_of.ensures))

pub returns : goal.returns
returns g c =
    let e : EndStates = record {
      table = between g.Table.Source.state c.args.table_source.now c.make_ledger.new.table;
      lines = between g.In.Source.state c.args.source.now c.take_submissions-taken.new.lines;
      replies = between g.Out.Sink.state c.args.sink.now c.take_submissions-taken.new.replies;
    } in
    let is : unless_refused c.make_ledger.result ≡ Ok (Some c.in-Some.ledger) = cc (c.in_ok-ledger.ensures, c.in-Some.is) in
    let opened = rw (was_made c.make_ledger.result c.in-Some.ledger is) at c.make_ledger.ensures in
    let run = collected c.args.rules c.args.fills e _ c.in-Some.ledger c.take_submissions-taken.result opened.0 opened.1 c.take_submissions-taken.ensures in
    (c.take_submissions-taken.result, (run, headline c.args.rules c.args.fills e c.take_submissions-taken.result run), c.in_ok-book_of.ensures)
