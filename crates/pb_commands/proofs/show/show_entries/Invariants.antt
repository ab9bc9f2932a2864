use Rattle.pb_commands.specs.BookShown.{entry_line}
use Rattle.pb_commands.proofs.PutsInTurn.{PutsLines}
use Rattle.pb_commands.proofs.show.show_entries.Given as goal

-- the lines of the entries before this one have been put
abbrev pub invariant-loop-entry : goal.invariant-loop-entry
invariant-loop-entry g l =
    let state = g.K.Sink.state in PutsLines entry_line l.entries l.entry-index (state l.initial.sink) (state l.sink)
