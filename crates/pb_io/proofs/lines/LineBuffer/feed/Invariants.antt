use Rattle.std.proofs.Common.{length}
use Rattle.pb_io.specs.LineTask.{ended}
use Rattle.pb_io.proofs.LineBufferLemmas.{IsFed}
use Rattle.pb_io.proofs.lines.LineBuffer.feed.Given as goal

-- the front of the chunk has been taken
abbrev pub invariant-loop-at : goal.invariant-loop-at
invariant-loop-at g l = IsFed (ended g.T.LineTask.takes) l.initial.task l.initial.self l.chunk l.rest l.task l.self

abbrev pub decreases-loop-at : goal.decreases-loop-at
decreases-loop-at g l = length l.rest
