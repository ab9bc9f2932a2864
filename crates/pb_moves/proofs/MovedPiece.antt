-- The board on which changes were put one after the other.
use Rattle.std.specs.Prelude.{ℕ, Option, List, fold, slice_set}
use Rattle.pb_board.specs.declared.piece.Piece.{Piece}
use Rattle.pb_board.specs.Board.{Board, Place}
use Rattle.pb_moves.specs.Moved.{Moved}
use Rattle.pb_moves.specs.Successor.{changes}

abbrev pub put : Board → ℕ → Option Piece → Board
put board square place = slice_set board square place

abbrev pub puts : Board → List (ℕ × Place) → Board
puts board now = fold (λ b c. put b c.0 c.1) board now

-- the board after the move of this piece
abbrev pub carried : Board → Moved → Piece → Board
carried board m piece = puts board (changes board m piece)
