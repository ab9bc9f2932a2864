-- The pieces that a move puts elsewhere, as values: one, and then another one where two go.
use Rattle.std.specs.Prelude.{◌≡◌, ◌≢◌, ◌<◌, Option, None, IfSome, IsTrue, MatchOption}
use Rattle.pb_board.specs.declared.piece.Colour.{Colour}
use Rattle.pb_board.specs.declared.setup.MovedPiece.{MovedPiece}
use Rattle.pb_board.specs.Board.{Board, Holds, IsEmpty}
use Rattle.pb_board.specs.MovedPiece.{with_moved, with_pieces_moved}
use Rattle.pb_board.specs.Piece.{king_of}
use Rattle.pb_board.specs.Position.{Position}
use Rattle.pb_moves.specs.Moved.{Moved}
use Rattle.pb_moves.specs.Successor.{after, is_castling, rook_home}

-- what arrives is of this side, on another square than the one that is left
pub record CanArrive (side : Colour) (c : MovedPiece) : Type 0 where
  pub own : c.piece.colour ≡ side
  pub on_board : c.to < 64
  pub moves : c.from ≢ c.to

-- the piece, of this side, goes from where it stands to an empty square
pub record CanFollow (board : Board) (side : Colour) (c : MovedPiece) : Type 0 where
  pub arrives : CanArrive side c
  pub stands : Holds board c.from c.piece
  pub empty : IsEmpty board c.to

-- The first piece leaves where the move begins. Alone, it arrives where the move ends; another one
-- follows it, on the board that it leaves. A king is followed just where it castles, by the rook.
pub record Fits (s : Position) (m : Moved) (first : MovedPiece) (second : Option MovedPiece)
    : Type 0 where
  pub leaves : first.from ≡ m.from
  pub arrives : CanArrive s.turn first
  pub reaches : second ≡ None → first.to ≡ m.to
  pub follows : IfSome second (CanFollow (with_moved s.board first) s.turn)
  pub castles : Holds s.board m.from (king_of s.turn) → MatchOption second
      (¬ IsTrue (is_castling s.turn m))
      (λ c. IsTrue (is_castling s.turn m) × (c.from ≡ rook_home m))

-- they fit, and make the board after the move
abbrev pub LeadsTo : Position → Moved → MovedPiece × Option MovedPiece → Type 0
LeadsTo s m moved = Fits s m moved.0 moved.1
    × ((after s m).board ≡ with_pieces_moved s.board moved.0 moved.1)

-- those that make the board after the move, or none exactly where the move isn't so
abbrev pub Finds : Type 0 → Position → Moved → Option (MovedPiece × Option MovedPiece) → Type 0
Finds So s m found = MatchOption found (¬ So) (λ moved. So × LeadsTo s m moved)
