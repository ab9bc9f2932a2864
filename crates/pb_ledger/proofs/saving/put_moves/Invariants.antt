use Rattle.std.proofs.Common.{◌≡◌, ℕ, List, ◌++◌, true, drop}
use Rattle.std.specs.Io.KnownBytes.{Appends}
use Rattle.pb_board.specs.LineEnd.{with_end}
use Rattle.pb_io.specs.Sink.{Lasts}
use Rattle.pb_games.specs.Submissions.{moves_text}
use Rattle.pb_ledger.proofs.SavedLoading.{further}
use Rattle.pb_ledger.proofs.saving.put_moves.Given as goal

-- the moves before this one have been put, a sink that had failed still has, and nothing was handed
-- on
abbrev pub invariant-loop-later : goal.invariant-loop-later
invariant-loop-later g l =
    let state = g.K.Sink.state in
    record {
      written : (done : List ℕ) × Appends (state l.fn.sink).bytes (state l.sink).bytes done × (done ++ with_end (further (drop l.later-index l.further)) ≡ with_end (moves_text l.moves));
      failed : (state l.fn.sink).failed ≡ true → (state l.sink).failed ≡ true;
      lasts : Lasts (state l.fn.sink).lasting (state l.sink).lasting;
      flushes : (state l.sink).flushes ≡ (state l.fn.sink).flushes;
    }
