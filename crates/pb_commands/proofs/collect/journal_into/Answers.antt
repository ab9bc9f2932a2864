use Rattle.std.proofs.Common.{inl, inr, refl}
use Rattle.std.proofs.lemmas.Result.{err_from_is_err_and}
use Rattle.pb_commands.specs.declared.stop.Stopped.TheVariants as stopped
use Rattle.pb_commands.specs.Runs.{EndStates, JournalStates, journal_states, states}
use Rattle.pb_commands.specs.declared.run.Intake.{Intake}
use Rattle.pb_commands.proofs.JournalClauses.{headline, journaled, outlives, survives}
use Rattle.pb_commands.proofs.collect.journal_into.Goals as goal

pub returns-in_err-replay-clause-ends : goal.returns-in_err-replay-clause-ends
returns-in_err-replay-clause-ends g c =
    let p = err_from_is_err_and c.from_residual-in_err-replay.result c.from_residual-in_err-replay.ensures.1 in
    let opened = c.in_ok-ledger.ensures in
    let fault = c.in_err-replay.field-0.0 in
    rw (p.1, p.2) (inr (
      stopped.Fault fault,
      ((refl, inr (c.in_ok-ledger.ledger, c.replay.new.ledger, opened.0, fault, c.in_err-replay.ensures.fault, opened.1, refl)), tt),
      refl,
      refl,
    ))

pub returns-clause-ends : goal.returns-clause-ends
returns-clause-ends g c =
    let end = c.collect_journaled-end in
    let e : EndStates = states g.Table.Source.state g.In.Source.state g.Out.Sink.state c.args.ends.now (record { table = c.make_ledger.new.table; lines = end.new.source; replies = end.new.sink; watcher = end.new.watcher }) in
    let j : JournalStates = journal_states g.Kept.Source.state g.Journal.Sink.state c.args.journal.now (record { kept = c.replay.new.source; journal = end.new.journal }) in
    let opened = c.in_ok-ledger.ensures in
    let replay = c.in_ok-replay.ensures in
    let run = journaled c.args.rules c.args.fills e j _ (g.Journal.Sink.state c.replay.new.journal) c.in_ok-ledger.ledger c.replay.new.ledger end.new.ledger end.result opened.0 opened.1 replay.ok
    replay.rest end.ensures.ok end.ensures.fault in
    inl (_, (run, headline c.args.rules c.args.fills e j _ run), c.keep_book.ensures)

pub returns-clause-survives : goal.returns-clause-survives
returns-clause-survives g c =
    let end = c.collect_journaled-end in
    let e : EndStates = states g.Table.Source.state g.In.Source.state g.Out.Sink.state c.args.ends.now (record { table = c.make_ledger.new.table; lines = end.new.source; replies = end.new.sink; watcher = end.new.watcher }) in
    let j : JournalStates = journal_states g.Kept.Source.state g.Journal.Sink.state c.args.journal.now (record { kept = c.replay.new.source; journal = end.new.journal }) in
    let opened = c.in_ok-ledger.ensures in
    let replay = c.in_ok-replay.ensures in
    let taken : Intake = record { ledger = end.new.ledger; end = end.result } in
    let run = journaled c.args.rules c.args.fills e j _ (g.Journal.Sink.state c.replay.new.journal) c.in_ok-ledger.ledger c.replay.new.ledger end.new.ledger end.result opened.0 opened.1 replay.ok
    replay.rest end.ensures.ok end.ensures.fault in
    (survives c.args.rules c.args.fills e j taken run, outlives c.args.rules c.args.fills e j taken run)
