use Rattle.std.proofs.Common.{[], ℕ, refl, subst}
use Rattle.std.proofs.KnownBytes.{Appends-nil}
use Rattle.std.proofs.lemmas.Result.{err_from_is_err_and}
use Rattle.pb_moves.specs.Moved.{Moved}
use Rattle.pb_io.specs.Sink.{Put}
use Rattle.pb_io.specs.declared.source.Failed.{Failed}
use Rattle.std.proofs.Common.{Err, Ok}
use Rattle.pb_commands.proofs.PutsInTurn.{PutsLines-more, flush_fails, found_line, line_fails, lines_shown}
use Rattle.pb_commands.proofs.probe.show_found.Goals as goal

abbrev Pair : Type 0
Pair = Moved × ℕ

pub loop-m-init : goal.loop-m-init
loop-m-init g c = record { done = []; put = Appends-nil _; cut = refl; flushes = refl }

pub returns-in_err-put_found : goal.returns-in_err-put_found
returns-in_err-put_found g c =
    let state = g.K.Sink.state in
    let p = err_from_is_err_and c.from_residual.result c.from_residual.ensures.1 in
    rw (p.1, p.2) (line_fails found_line c.args.found.now c.loop-m.m-index (state c.args.sink.now) (state c.loop-m.sink) (state c.put_found.new.sink) c.loop-m.invariant c.loop-m-item.result c.in_err-put_found.field-0.0 c.loop-m-test.true
    (subst (λ (x : Pair). Put {E = Failed} (state c.loop-m.sink) (state c.put_found.new.sink) (Err c.in_err-put_found.field-0.0) (found_line x)) c.loop-m-item.is c.in_err-put_found.ensures))

pub loop-m-preserved : goal.loop-m-preserved
loop-m-preserved g c =
    let state = g.K.Sink.state in
    PutsLines-more found_line c.args.found.now c.loop-m.m-index (state c.args.sink.now) (state c.loop-m.sink) (state c.put_found.new.sink) c.loop-m.invariant c.loop-m-item.result c.in_ok-put_found.field-0 c.loop-m-test.true
    (subst (λ (x : Pair). Put {E = Failed} (state c.loop-m.sink) (state c.put_found.new.sink) (Ok c.in_ok-put_found.field-0) (found_line x)) c.loop-m-item.is c.in_ok-put_found.ensures)

pub returns-in_err-flush : goal.returns-in_err-flush
returns-in_err-flush g c =
    let p = err_from_is_err_and c.from_residual-in_err-flush.result c.from_residual-in_err-flush.ensures.1 in
    rw (p.1, p.2) (flush_fails found_line c.args.found.now c.loop-m.m-index _ _ _ c.loop-m.invariant c.in_err-flush.field-0.0 c.loop-m-test.false c.in_err-flush.ensures)

pub returns : goal.returns
returns g c = lines_shown found_line c.args.found.now c.loop-m.m-index _ _ _ c.loop-m.invariant c.loop-m-test.false c.in_ok-flush.ensures
