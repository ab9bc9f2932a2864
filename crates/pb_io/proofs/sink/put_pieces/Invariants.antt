use Rattle.std.proofs.Common.{◌≡◌, ℕ, List, ◌++◌, true, drop}
use Rattle.std.specs.Io.KnownBytes.{Appends}
use Rattle.pb_io.specs.Sink.{pieces_joined, Lasts}
use Rattle.pb_io.proofs.sink.put_pieces.Given as goal

-- the parts before this one have been put and not handed on, and a sink that had failed still has
abbrev pub invariant-loop-part : goal.invariant-loop-part
invariant-loop-part g l =
    let state = g.K.Sink.state in
    record {
      written : (done : List ℕ) × Appends (state l.initial.sink).bytes (state l.sink).bytes done
          × (done ++ (pieces_joined (drop l.part-index l.parts) ++ l.end) ≡ pieces_joined l.parts ++ l.end);
      failed : (state l.initial.sink).failed ≡ true → (state l.sink).failed ≡ true;
      lasts : Lasts (state l.initial.sink).lasting (state l.sink).lasting;
      flushes : (state l.sink).flushes ≡ (state l.initial.sink).flushes;
    }
