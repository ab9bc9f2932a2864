use Rattle.std.proofs.Common.{rules, refl, Ok, Err}
use Rattle.std.proofs.lemmas.Result.{err_from_is_err_and}
use Rattle.pb_io.proofs.WritesLemmas.{Writes-flushed}
use Rattle.pb_io.specs.declared.fault.Fault.TheVariants.{Write}
use Rattle.pb_ledger.specs.Journal.{seal}
use Rattle.pb_ledger.proofs.Failures.{puts_not, writes_not}
use Rattle.pb_ledger.proofs.Replayed.{holds_all, seals, seals_not, stays, until}
use Rattle.pb_ledger.proofs.journal.replay.Goals as goal

pub returns-in_err-take_lines : goal.returns-in_err-take_lines
returns-in_err-take_lines g c =
    let is = err_from_is_err_and c.from_residual.result c.from_residual.ensures.1 in
    let ends = until _ _ _ _ c.take_lines.new.task c.requires refl c.in_err-take_lines.field-0.0 c.in_err-take_lines.ensures.err in
    let all = ends.0 (g.Journal.Sink.state c.args.journal.now) in
    rw (is.1, is.2) (record { ok = tt; fault = search rules; rest = search rules })

pub returns-in_err-put : goal.returns-in_err-put
returns-in_err-put g c =
    let state = g.Journal.Sink.state in
    let is = err_from_is_err_and c.from_residual-in_err-put.result c.from_residual-in_err-put.ensures.1 in
    let ends = holds_all _ _ _ _ c.take_lines.new.task c.requires refl c.in_ok-take_lines.ensures.ok in
    let all = seals_not _ _ _ c.args.ledger.now c.take_lines.new.task.ledger.now _ ends.0 c.if-replayer.true _ _
    (puts_not (state c.args.journal.now) (state c.put.new.self) c.in_err-put.field-0.0 Write seal c.in_err-put.ensures) in
    rw (is.1, is.2) (record { ok = tt; fault = search rules; rest = search rules })

pub returns-in_err-flush : goal.returns-in_err-flush
returns-in_err-flush g c =
    let state = g.Journal.Sink.state in
    let is = err_from_is_err_and c.from_residual-in_err-flush.result c.from_residual-in_err-flush.ensures.1 in
    let ends = holds_all _ _ _ _ c.take_lines.new.task c.requires refl c.in_ok-take_lines.ensures.ok in
    let put = c.in_ok-put.ensures in
    let all = seals_not _ _ _ c.args.ledger.now c.take_lines.new.task.ledger.now _ ends.0 c.if-replayer.true _ _
    (writes_not (state c.args.journal.now) (state c.flush.new.self) c.in_err-flush.field-0.0 Write seal
    (Writes-flushed (state c.args.journal.now) (state c.put.new.self) (state c.flush.new.self) (Err c.in_err-flush.field-0.0) seal put.all (λ before. let bad = put.stays_failed before in cc) put.lasts put.flushes c.in_err-flush.ensures)) in
    rw (is.1, is.2) (record { ok = tt; fault = search rules; rest = search rules })

pub returns-in_ok-flush : goal.returns-in_ok-flush
returns-in_ok-flush g c =
    let state = g.Journal.Sink.state in
    let ends = holds_all _ _ _ _ c.take_lines.new.task c.requires refl c.in_ok-take_lines.ensures.ok in
    let put = c.in_ok-put.ensures in
    let all = seals _ _ _ c.args.ledger.now c.take_lines.new.task.ledger.now _ ends.0 c.if-replayer.true _ _
    (Writes-flushed (state c.args.journal.now) (state c.put.new.self) (state c.flush.new.self) (Ok tt) seal put.all (λ before. let bad = put.stays_failed before in cc) put.lasts put.flushes c.in_ok-flush.ensures) in
    record { ok = search rules; fault = tt; rest = search rules }

pub returns-else-replayer : goal.returns-else-replayer
returns-else-replayer g c =
    let ends = holds_all _ _ _ _ c.take_lines.new.task c.requires refl c.in_ok-take_lines.ensures.ok in
    let all = stays _ _ _ c.args.ledger.now c.take_lines.new.task.ledger.now _ ends.0 c.if-replayer.false (g.Journal.Sink.state c.args.journal.now) in
    record { ok = search rules; fault = tt; rest = search rules }
