-- A piece without which its king is safe.
use Rattle.std.specs.Prelude.{◌≢◌, ℕ, [], ◌∷◌, None}
use Rattle.pb_board.specs.declared.piece.Kind.TheVariants.{King}
use Rattle.pb_board.specs.declared.piece.Piece.{Piece}
use Rattle.pb_board.specs.Board.{Board}
use Rattle.pb_board.specs.Piece.{opponent}
use Rattle.pb_board.specs.Position.{Position, IsOnlyKing, IsSetup}
use Rattle.pb_moves.specs.Attacks.{IsAttacked}
use Rattle.pb_moves.specs.Successor.{Differs}

-- the piece isn't the king, and its side's king wouldn't be attacked if it were gone
pub record IsUnpinned (s : Position) (from : ℕ) (piece : Piece) : Type 0 where
  pub rules : IsSetup s
  pub no_king : piece.kind ≢ King
  pub king : ℕ
  pub only : IsOnlyKing s.board s.turn king
  pub covered : (b : Board) → Differs s.board b ((from, None) ∷ [])
      → ¬ IsAttacked b (opponent s.turn) king
