use Rattle.std.proofs.Common.{◌≡◌, ℕ, List, All, ◌++◌, drop, length}
use Rattle.pb_moves.specs.Played.{IsSpelled}
use Rattle.pb_commands.specs.FenShown.{texts}
use Rattle.pb_commands.proofs.fen.misspelt.Given as goal

-- the move texts before this one spell moves
abbrev pub invariant-loop-index : goal.invariant-loop-index
invariant-loop-index l = record {
  done : List (List ℕ);
  cut : done ++ texts (drop l.index l.move_texts) ≡ texts l.move_texts;
  count : length done ≡ l.index;
  spelt : All IsSpelled done;
}
