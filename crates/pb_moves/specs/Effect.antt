-- What a move that is legal, check apart, does to a setup, as a value.
use Rattle.std.specs.Prelude.{◌≡◌}
use Rattle.pb_board.specs.Board.{Holds}
use Rattle.pb_board.specs.MovedPiece.{with_pieces_moved}
use Rattle.pb_board.specs.Piece.{opponent}
use Rattle.pb_board.specs.Position.{IsSetup, Position, position_of}
use Rattle.pb_moves.specs.declared.effect.Effect.{Effect}
use Rattle.pb_moves.specs.Legal.{PseudoLegal}
use Rattle.pb_moves.specs.MovedPieces.{Fits}
use Rattle.pb_moves.specs.Moved.{Moved}
use Rattle.pb_moves.specs.Successor.{after}

-- its piece stands where the move begins, and the setup after the move is made of its parts
pub record IsEffect (s : Position) (m : Moved) (e : Effect) : Type 0 where
  pub rules : IsSetup s
  pub moves : PseudoLegal s m
  pub stands : Holds s.board m.from e.piece
  pub fits : Fits s m e.first e.second
  pub after : after s m ≡ position_of (with_pieces_moved s.board e.first e.second)
      (opponent s.turn) e.rights e.ep
