-- Submissions and the lines that spell them.
use Rattle.std.specs.Prelude.{◌≡◌, ℕ, ◌≤◌, List, [], ◌∷◌, length, map, All}
use Rattle.std.specs.List.{join_with_byte}
use Rattle.std.specs.Str.Lines.{strip_carriage_return}
use Rattle.pb_board.specs.Fields.{space, tab}
use Rattle.pb_board.specs.Position.{IsRecord, Position}
use Rattle.pb_board.specs.Text.{fen_text}
use Rattle.pb_moves.specs.Attacks.{IsPlayable}
use Rattle.pb_moves.specs.Moved.{Moved, IsMove}
use Rattle.pb_moves.specs.Played.{Ply, plies_from, AreLegal}
use Rattle.pb_moves.specs.Spelling.{spelling}
use Rattle.pb_moves.specs.Successor.{after}
use Rattle.pb_games.specs.declared.game.Game.{Game}
use Rattle.pb_games.specs.Ids.{IsId}
use Rattle.pb_games.specs.Results.{outcome_text}

-- an id and a game, legal or not
abbrev pub Submission : Type 0
Submission = List ℕ × Game

-- the spellings of the moves, joined by single spaces
abbrev pub moves_text : List Moved → List ℕ
moves_text moves = join_with_byte space (map spelling moves)

-- the bounds of a game
pub record IsGame (g : Game) : Type 0 where
  pub start : IsRecord g.start
  pub moves : All IsMove g.moves
  pub few : length g.moves ≤ 1024

-- the id, the result, the FEN record that the game starts from and the UCI texts of its moves, with
-- a TAB between each two
abbrev pub submission_text : Submission → List ℕ
submission_text s =
    join_with_byte tab (s.0 ∷ outcome_text s.1.outcome ∷ fen_text s.1.start
    ∷ moves_text s.1.moves ∷ [])

-- the moves of the game, each with the setup before it
abbrev pub plies : Game → List Ply
plies g = plies_from g.start.setup g.moves

-- the setup after these moves, which means nothing where one of them isn't legal
abbrev pub setup_after : Position → List Moved → Position
setup_after s [] = s
setup_after s (m ∷ ms) = setup_after (after s m) ms

-- the setup after the game's last move
abbrev pub last_setup : Game → Position
last_setup g = setup_after g.start.setup g.moves

-- the side that isn't to move at the start isn't in check, and each move is legal where it is
-- played
pub record IsLegalGame (g : Game) : Type 0 where
  pub playable : IsPlayable g.start.setup
  pub legal : AreLegal g.start.setup g.moves

-- the line submits this legal game under this id: without one final CR it is their text
pub record Submits (line : List ℕ) (s : Submission) : Type 0 where
  pub text : strip_carriage_return line ≡ submission_text s
  pub id : IsId s.0
  pub start : IsRecord s.1.start
  pub playable : IsPlayable s.1.start.setup
  pub few : length s.1.moves ≤ 1024
  pub legal : AreLegal s.1.start.setup s.1.moves

-- an id and a legal game within the bounds
pub record IsSubmission (s : Submission) : Type 0 where
  pub id : IsId s.0
  pub game : IsGame s.1
  pub legal : IsLegalGame s.1
