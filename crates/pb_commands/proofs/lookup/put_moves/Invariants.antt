use Rattle.std.proofs.Common.{◌≡◌, ℕ, List, ◌++◌, true, drop}
use Rattle.std.specs.Io.KnownBytes.{Appends}
use Rattle.pb_board.specs.LineEnd.{with_end}
use Rattle.pb_io.specs.Sink.{Lasts}
use Rattle.pb_commands.specs.LookupShown.{moves_line}
use Rattle.pb_commands.proofs.MovesLines.{further}
use Rattle.pb_commands.proofs.lookup.put_moves.Given as goal

-- the moves before this one have been put, a sink that had failed still has, and nothing was handed
-- on
abbrev pub invariant-loop-m : goal.invariant-loop-m
invariant-loop-m g l =
    let state = g.K.Sink.state in
    record {
      written : (done : List ℕ) × Appends (state l.fn.sink).bytes (state l.sink).bytes done × (done ++ with_end (further (drop l.m-index l.others)) ≡ moves_line l.found);
      failed : (state l.fn.sink).failed ≡ true → (state l.sink).failed ≡ true;
      lasts : Lasts (state l.fn.sink).lasting (state l.sink).lasting;
      flushes : (state l.sink).flushes ≡ (state l.fn.sink).flushes;
    }
