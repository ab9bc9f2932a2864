use Rattle.pb_commands.proofs.PutsInTurn.{PutsLines, found_line}
use Rattle.pb_commands.proofs.probe.show_found.Given as goal

-- the lines of the moves before this one have been put
abbrev pub invariant-loop-m : goal.invariant-loop-m
invariant-loop-m g l =
    let state = g.K.Sink.state in PutsLines found_line l.found l.m-index (state l.initial.sink) (state l.sink)
