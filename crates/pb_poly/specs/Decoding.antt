-- What the fields of a move code stand for.
use Rattle.std.specs.Prelude.{ℕ, ◌==◌, Option, Some, None, if◌then◌else◌}
use Rattle.pb_board.specs.declared.piece.Colour.{Colour}
use Rattle.pb_board.specs.declared.castling.Castling.{Castling}
use Rattle.pb_board.specs.Piece.{colour_number, king_of}
use Rattle.pb_board.specs.Castling.{castling_from_home, castling_row}
use Rattle.pb_board.specs.Position.{Position}
use Rattle.pb_board.specs.Board.{at, is_piece}

-- the square that the king of this side reaches where the code names the rook with which it
-- castles, and else the one named
abbrev pub king_or : Colour → ℕ → Option Castling → ℕ
king_or side to None = to
king_or side to (Some c) = let row = castling_row c in
    if colour_number row.colour == colour_number side then row.king_to else to

-- the square that a move from this square reaches where its code names that one
abbrev pub reached : Position → ℕ → ℕ → ℕ
reached s from to = if is_piece (king_of s.turn) (at s.board from)
    then king_or s.turn to (castling_from_home from to) else to
