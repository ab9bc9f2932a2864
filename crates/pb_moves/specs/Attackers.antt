-- What is seen of a board in sets of squares: what is taken, and where one side stands.
use Rattle.std.specs.Prelude.{◌≡◌, ℕ, ◌<◌, ◌↔◌, length}
use Rattle.std.specs.Int.{bit_at}
use Rattle.pb_board.specs.declared.piece.Colour.{Colour}
use Rattle.pb_board.specs.declared.piece.Kind.{Kind}
use Rattle.pb_board.specs.Piece.{piece_of}
use Rattle.pb_board.specs.Board.{Board, IsEmpty, Holds}
use Rattle.pb_moves.specs.declared.check.Sight.{Sight}

-- the square is among those that the number stands for
abbrev pub In : ℕ → ℕ → Type 0
In bitboard q = bit_at bitboard q ≡ 1

-- the squares of a board that are not empty
abbrev pub IsOccupied : ℕ → Board → Type 0
IsOccupied bitboard board = (q : ℕ) → q < 64 → In bitboard q ↔ ¬ IsEmpty board q

-- what is taken on the board and where this side stands, of which nothing has moved since the first
pub record IsSight (first board : Board) (by : Colour) (sight : Sight) : Type 0 where
  pub full : length board ≡ 64
  pub occupied : IsOccupied sight.occupied board
  pub attackers : (q : ℕ) → q < 64
      → In sight.attackers q ↔ ((kind : Kind) × Holds board q (piece_of by kind))
  pub stood : (q : ℕ) (kind : Kind) → Holds board q (piece_of by kind)
      → Holds first q (piece_of by kind)
