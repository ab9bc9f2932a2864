-- Lines that submit legal games.
use Rattle.std.specs.Prelude.{◌≡◌, ℕ, List, length, All}
use Rattle.pb_board.specs.Position.{Record}
use Rattle.pb_moves.specs.Played.{IsSpelled}
use Rattle.pb_games.specs.declared.game.Outcome.{Outcome}
use Rattle.pb_games.specs.Submissions.{Submission, IsSubmission}
use Rattle.pb_games.specs.Tokens.{tokens_of, moves_spelt}

-- the submission of an id, a start, an outcome and the field of the moves
abbrev pub submission_of : List ℕ → Record → Outcome → List ℕ → Submission
submission_of id start outcome field =
    (id, record { start = start; outcome = outcome; moves = moves_spelt field })

-- the submission meets its rules, each token of the field spells a move, and this is their number
pub record IsChecked (s : Submission) (field : List ℕ) (plies : ℕ) : Type 0 where
  pub rules : IsSubmission s
  pub spelt : All IsSpelled (tokens_of field)
  pub number : plies ≡ length (tokens_of field)
