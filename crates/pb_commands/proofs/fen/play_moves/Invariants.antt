use Rattle.std.proofs.Common.{◌≡◌, ℕ, List, All, ◌++◌, drop, length}
use Rattle.std.specs.List.{AllZip}
use Rattle.pb_moves.specs.Moved.{Moved}
use Rattle.pb_moves.specs.Played.{IsSpelled, Plays, Spells}
use Rattle.pb_commands.specs.FenShown.{texts}
use Rattle.pb_commands.proofs.fen.play_moves.Given as goal

-- the move texts before this one spell moves that lead to this record
abbrev pub invariant-loop-index : goal.invariant-loop-index
invariant-loop-index l = record {
  done : List (List ℕ);
  moves : List Moved;
  cut : done ++ texts (drop l.index l.move_texts) ≡ texts l.move_texts;
  count : length moves ≡ l.index;
  spelt : AllZip Spells done moves;
  plays : Plays l.initial.record moves l.record;
  to_come : All IsSpelled (texts (drop l.index l.move_texts));
}
