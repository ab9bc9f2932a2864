-- A line that submits Fool's mate, and its submission.
use Rattle.std.specs.Prelude.{ℕ, List, [], ◌∷◌, codes}
use Rattle.std.specs.List.{join_with_byte}
use Rattle.pb_moves.specs.Worked.{fools_mate}
use Rattle.pb_games.specs.declared.game.Outcome.TheVariants.{Black}
use Rattle.pb_games.specs.Starts.{initial_record}
use Rattle.pb_games.specs.Submissions.{Submission}

abbrev pub worked_line : List ℕ
worked_line = join_with_byte 9 (codes "g1" ∷ codes "0-1"
    ∷ codes "rnbqkbnr/pppppppp/8/8/8/8/PPPPPPPP/RNBQKBNR w KQkq - 0 1"
    ∷ codes "f2f3 e7e5 g2g4 d8h4" ∷ [])

abbrev pub worked_submission : Submission
worked_submission =
    (codes "g1", record { start = initial_record; outcome = Black; moves = fools_mate })
