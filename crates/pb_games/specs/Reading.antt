-- What reading the tokens of a field and playing the moves that they spell comes to.
use Rattle.std.specs.Prelude.{◌≡◌, ℕ, ◌≤◌, ◌<◌, List, length, All}
use Rattle.pb_board.specs.Position.{Position}
use Rattle.pb_board.specs.Refusal.{BreaksAt}
use Rattle.pb_moves.specs.Played.{Ply, AreLegal, IsSpelled}
use Rattle.pb_games.specs.declared.game.Outcome.{Outcome}
use Rattle.pb_games.specs.declared.refusal.Refusal.{Refusal}
use Rattle.pb_games.specs.declared.refusal.Refusal.TheVariants as refusal
use Rattle.pb_games.specs.declared.judge.TheConstants.{MAX_PLIES}
use Rattle.pb_games.specs.Tokens.{tokens_of, moves_spelt}

-- each token spells a move, they are this many and not too many, and the moves are legal one after
-- another
pub record AreRead (start : Position) (field : List ℕ) (plies : ℕ) : Type 0 where
  pub spelt : All IsSpelled (tokens_of field)
  pub number : plies ≡ length (tokens_of field)
  pub few : plies ≤ MAX_PLIES
  pub legal : AreLegal start (moves_spelt field)

-- each token spells a move, they aren't too many, and the n-th is the first that isn't legal
pub record IsStopped (start : Position) (field : List ℕ) (n : ℕ) : Type 0 where
  pub spelt : All IsSpelled (tokens_of field)
  pub few : length (tokens_of field) ≤ MAX_PLIES
  pub first : BreaksAt (AreLegal start) (moves_spelt field) n

-- the refusal that the tokens of the field get from this start
abbrev pub AreRefused : Position → List ℕ → Refusal → Type 0
AreRefused start field (refusal.Spelling n) = BreaksAt (All IsSpelled) (tokens_of field) n
AreRefused start field refusal.Plies =
    All IsSpelled (tokens_of field) × (MAX_PLIES < length (tokens_of field))
AreRefused start field (refusal.Illegal n) = IsStopped start field n
AreRefused start field _ = ⊥

-- some plies of some game are held, which led here, and a further one isn't too many
abbrev pub CanTake : (Outcome → List Ply → Position → Type 0) → Position → Type 0
CanTake holds setup =
    (outcome : Outcome) × (known : List Ply) × holds outcome known setup
    × (length known < MAX_PLIES)
