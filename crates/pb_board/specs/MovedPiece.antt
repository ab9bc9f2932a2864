-- Boards on which pieces were moved one after the other.
use Rattle.std.specs.Prelude.{Option, Some, None}
use Rattle.pb_board.specs.declared.setup.MovedPiece.{MovedPiece}
use Rattle.pb_board.specs.Board.{Board}
use Rattle.pb_board.specs.Position.{with_piece_moved}

-- the board after a piece was moved
abbrev pub with_moved : Board → MovedPiece → Board
with_moved board moved = with_piece_moved board moved.from moved.to moved.piece

-- the board after a piece was moved, and then another one where two go
abbrev pub with_pieces_moved : Board → MovedPiece → Option MovedPiece → Board
with_pieces_moved board first None = with_moved board first
with_pieces_moved board first (Some second) = with_moved (with_moved board first) second
