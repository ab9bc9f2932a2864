-- What a line says that repeats a game.
use Rattle.std.specs.Prelude.{◌≡◌, map}
use Rattle.pb_board.specs.Text.{fen_text}
use Rattle.pb_moves.specs.Spelling.{spelling}
use Rattle.pb_games.specs.declared.fields.LineFields.{LineFields}
use Rattle.pb_games.specs.declared.game.Game.{Game}
use Rattle.pb_games.specs.Results.{outcome_text}
use Rattle.pb_games.specs.Tokens.{tokens_of}

-- the fields after the id are the text of the game's outcome, that of its start, and for tokens the
-- spellings of its moves
pub record AreFieldsOf (g : Game) (f : LineFields) : Type 0 where
  pub outcome_is : f.outcome.now ≡ outcome_text g.outcome
  pub start_is : f.start.now ≡ fen_text g.start
  pub tokens_are : tokens_of f.moves.now ≡ map spelling g.moves
