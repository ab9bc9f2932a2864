-- A line that submits Fool's mate is lawful.
use Rattle.std.proofs.Common.{◌≡◌, [], ◌∷◌, refl, inl, arith}
use Rattle.std.specs.Prelude.{codes}
use Rattle.std.specs.Fmt.{digits}
use Rattle.std.specs.Str.Lines.{strip_carriage_return}
use Rattle.std.proofs.lemmas.List.Elements.{All-nil, All-cons}
use Rattle.pb_board.specs.declared.piece.Colour.TheVariants as side
use Rattle.pb_board.specs.Initial.{initial, initial_board}
use Rattle.pb_board.proofs.InitialText.{initial_bounds}
use Rattle.pb_board.proofs.Starts.{is_it, king_test}
use Rattle.pb_board.specs.declared.piece.Kind.TheVariants.{Queen}
use Rattle.pb_moves.specs.Attacks.{InCheck, IsPlayable}
use Rattle.pb_moves.specs.Successor.{after}
use Rattle.pb_moves.proofs.Tested.{clear, is_harmless, is_open, may, unchecked}
use Rattle.pb_moves.proofs.WorkedMoves.{fools_mate_legal}
use Rattle.pb_games.specs.Ids.{IsId, IsPrintable}
use Rattle.pb_games.specs.Submissions.{Submits, last_setup, submission_text}
use Rattle.pb_games.specs.Worked.{worked_line, worked_submission}

text : strip_carriage_return worked_line ≡ submission_text worked_submission
unfolding initial_board digits
text = refl

id : IsId (codes "g1")
id = record {
  some = omega arith;
  few = omega arith;
  printable = All-cons IsPrintable 103 (49 ∷ []) (omega arith, omega arith) (All-cons IsPrintable 49 [] (omega arith, omega arith) (All-nil IsPrintable));
}

playable : IsPlayable initial
unfolding initial_board is_harmless may king_test is_it
playable = unchecked side.Black 60 initial_board (refl, refl, refl)

pub lawful : Submits worked_line worked_submission
lawful = record { text = text; id = id; start = initial_bounds; playable = playable; few = omega arith; legal = fools_mate_legal }

-- the queen on h4 attacks the king on e1
pub checked : InCheck (last_setup worked_submission.1).board side.White
unfolding initial_board after is_open
checked = (4, refl, (31, Queen, refl, ((inl refl, omega arith), (λ e. absurd cc), clear 31 4 (last_setup worked_submission.1).board refl)))
