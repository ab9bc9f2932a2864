use Rattle.std.proofs.Common.{◌<◌, ◌≤◌, ℕ, length, Ok, inr, subst, arith, rules}
use Rattle.std.proofs.lemmas.Result.{err_from_is_err_and}
use Rattle.pb_io.specs.declared.source.Failed.{Failed}
use Rattle.pb_io.specs.Source.{Fill, chunk_len}
use Rattle.pb_io.specs.LineTask.{ended}
use Rattle.pb_io.proofs.TaskLemmas.{drained, stops_within}
use Rattle.pb_io.proofs.lines.LineBuffer.drain.Goals as goal

pub returns-then-count-eq0-clause-ok : goal.returns-then-count-eq0-clause-ok
returns-then-count-eq0-clause-ok g c =
    let now = c.loop-made.invariant in let state = g.S.Source.state in let room : 0 < length c.fill.new.into = omega arith in let fits : length c.fill.new.into ≤ chunk_len = omega arith in
    let fill : Fill {E = Failed} (state c.loop-made.source) (state c.fill.new.self) (Ok 0) c.fill.new.into =
    subst (λ (n : ℕ). Fill {E = Failed} (state c.loop-made.source) (state c.fill.new.self) (Ok n) c.fill.new.into) c.if-count-eq0.true c.in-Ok.ensures in
    drained (ended g.T.LineTask.takes) c.loop-made._made c.args.fills (state c.args.source.now) (state c.loop-made.source) (state c.fill.new.self) now.0 c.fill.new.into
    room fits c.loop-made-test.true now.1 c.args.task.now c.loop-made.task _ fill now.2

pub returns-in_err-feed-clause-err : goal.returns-in_err-feed-clause-err
returns-in_err-feed-clause-err g c =
    let now = c.loop-made.invariant in let state = g.S.Source.state in let room : 0 < length c.fill.new.into = omega arith in let fits : length c.fill.new.into ≤ chunk_len = omega arith in
    let p = err_from_is_err_and c.from_residual.result c.from_residual.ensures.1 in rw (p.1, p.2) (
    inr (stops_within (ended g.T.LineTask.takes) c.loop-made._made c.args.fills (state c.args.source.now) (state c.loop-made.source) (state c.fill.new.self) now.0 c.fill.new.into
    room fits c.loop-made-test.true now.1 c.args.task.now c.feed.new.task c.in_err-feed.field-0.0 c.in-Ok.count c.in-Ok.ensures (c.in_err-feed.ensures.stop c.args.task.now now.0 now.2)))

pub returns-clause-err : goal.returns-clause-err
returns-clause-err g c = search rules

pub returns-in_default-clause-err : goal.returns-in_default-clause-err
returns-in_default-clause-err g c = search rules

pub returns-in_default-clause-ok : goal.returns-in_default-clause-ok
returns-in_default-clause-ok g c = search rules
