use Rattle.std.proofs.Common.{◌≡◌, ℕ, List, length}
use Rattle.pb_io.specs.Source.{ReadsOn, chunk_len}
use Rattle.pb_io.specs.LineTask.{Reached, ended}
use Rattle.pb_io.proofs.lines.LineBuffer.drain.Given as goal

-- the source reads on, and the lines that an LF ended have been taken
abbrev pub invariant-loop-made : goal.invariant-loop-made
invariant-loop-made g l =
    let state = g.S.Source.state in
    (came : List ℕ) × ReadsOn chunk_len l._made (state l.initial.source) (state l.source) came × Reached (ended g.T.LineTask.takes) l.initial.task came l.task l.self
    × (length l.chunk ≡ chunk_len)
