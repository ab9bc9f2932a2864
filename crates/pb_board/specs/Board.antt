-- A board, by what stands on each of its squares. A square is its index, 8 * rank + file, with a1
-- at 0 and h8 at 63.
use Rattle.std.specs.Prelude.{◌≡◌, ℕ, ◌/◌, ◌%◌, ◌+◌, ◌-◌, Bool, false}
use Rattle.std.specs.Prelude.{◌==◌, List, Option, Some, None, slice_index_or}
use Rattle.pb_board.specs.declared.piece.Colour.{Colour}
use Rattle.pb_board.specs.declared.piece.Colour.TheVariants.{White, Black}
use Rattle.pb_board.specs.declared.piece.Piece.{Piece}
use Rattle.pb_board.specs.Piece.{piece_number}

-- what stands on a square: a piece or nothing
abbrev pub Place : Type 0
Place = Option Piece

-- the squares by index
abbrev pub Board : Type 0
Board = List Place

-- the file, from 0 for the a-file
abbrev pub file : ℕ → ℕ
file square = square % 8

-- the rank, from 0 for rank 1
abbrev pub rank : ℕ → ℕ
rank square = square / 8

-- the rank as this side counts it, from 0 for its own first
abbrev pub rank_for : Colour → ℕ → ℕ
rank_for White square = rank square
rank_for Black square = 7 - rank square

-- what stands on a square; off the board, nothing
abbrev pub at : Board → ℕ → Place
at board square = slice_index_or board square None

-- this piece stands on the square
abbrev pub Holds : Board → ℕ → Piece → Type 0
Holds board square piece = at board square ≡ Some piece

-- nothing stands on the square
abbrev pub IsEmpty : Board → ℕ → Type 0
IsEmpty board square = at board square ≡ None

-- b is this many ranks forward of a, for the colour
abbrev pub IsForward : Colour → ℕ → ℕ → ℕ → Type 0
IsForward White n a b = rank b ≡ rank a + n
IsForward Black n a b = rank a ≡ rank b + n

-- whether what stands there is this piece
abbrev pub is_piece : Piece → Place → Bool
is_piece piece None = false
is_piece piece (Some p) = piece_number p == piece_number piece
