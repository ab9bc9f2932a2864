use Rattle.std.proofs.lemmas.Result.{err_from_is_err_and}
use Rattle.pb_io.specs.LineTask.{ended}
use Rattle.pb_io.proofs.LineLemmas.{line_feed_found, line_feed_absent}
use Rattle.pb_io.proofs.LineBufferLemmas.{IsFed-more, IsFed-all, IsFed-stops}
use Rattle.pb_io.proofs.lines.LineBuffer.feed.Goals as goal

pub returns-in_err-end_line-clause-stop : goal.returns-in_err-end_line-clause-stop
returns-in_err-end_line-clause-stop g c s came h =
    let p = err_from_is_err_and c.from_residual.result c.from_residual.ensures.1 in rw (p.1, p.2) (
    IsFed-stops (ended g.T.LineTask.takes) _ _ _ _ _ _ _ c.in-Some.at _ c.loop-at.invariant (line_feed_found c.loop-at.rest.now c.in-Some.at c.in-Some.ensures) c.in_err-end_line.ensures.taken s came h)

pub loop-at-preserved : goal.loop-at-preserved
loop-at-preserved g c =
    IsFed-more (ended g.T.LineTask.takes) _ _ _ _ _ _ _ _ c.in-Some.at c.loop-at.invariant (line_feed_found c.loop-at.rest.now c.in-Some.at c.in-Some.ensures) c.in_ok-end_line.ensures.taken c.in_ok-end_line.ensures.cleared

pub returns-clause-ok : goal.returns-clause-ok
returns-clause-ok g c =
    IsFed-all (ended g.T.LineTask.takes) _ _ _ _ _ _ _ c.loop-at.invariant (line_feed_absent c.loop-at.rest.now c.in_default.ensures) c.hold.ensures
