use Rattle.std.proofs.Common.{◌≡◌, ◌∷◌, map, true, take}
use Rattle.std.specs.Io.KnownBytes.{Appends}
use Rattle.std.specs.List.{flat_map}
use Rattle.pb_board.specs.LineEnd.{with_end}
use Rattle.pb_io.specs.Sink.{Lasts}
use Rattle.pb_games.specs.Submissions.{submission_text}
use Rattle.pb_ledger.specs.Saving.{header}
use Rattle.pb_ledger.proofs.saving.save.Given as goal

-- of the texts of all games those before this one have been put after the header, a sink that had
-- failed still has, and nothing was handed on
abbrev pub invariant-loop-index : goal.invariant-loop-index
invariant-loop-index g l =
    let state = g.K.Sink.state in
    record {
      written : Appends (state l.fn.sink).bytes (state l.sink).bytes (flat_map with_end (header ∷ take l.index (map submission_text l.ledger.accepted)));
      failed : (state l.fn.sink).failed ≡ true → (state l.sink).failed ≡ true;
      lasts : Lasts (state l.fn.sink).lasting (state l.sink).lasting;
      flushes : (state l.sink).flushes ≡ (state l.fn.sink).flushes;
    }
