-- Bitboards: sets of squares as numbers: bit i stands for the square of index i.
use Rattle.std.specs.Prelude.{ℕ, ◌+◌, ◌*◌, Bool, true, false, ◌==◌, List, [], ◌∷◌}
use Rattle.std.specs.Prelude.{◌++◌, map, Some, None, bit_and, slice_index_or}
use Rattle.std.specs.Int.{bit_at}
use Rattle.std.specs.List.{find, range_with_len}
use Rattle.pb_board.specs.declared.piece.Colour.{Colour}
use Rattle.pb_board.specs.declared.piece.Colour.TheVariants.{White, Black}
use Rattle.pb_board.specs.declared.piece.Kind.{Kind}
use Rattle.pb_board.specs.declared.piece.Kind.TheVariants.{Pawn, Knight, Bishop, Rook, Queen, King}
use Rattle.pb_board.specs.declared.bitboards.Bitboards.{Bitboards}
use Rattle.pb_board.specs.declared.piece.Piece.{Piece}
use Rattle.pb_board.specs.Piece.{colour_number, kind_number, piece_of}
use Rattle.pb_board.specs.Board.{Place, Board}

-- a piece of this side stands there
abbrev pub is_side : Colour → Place → Bool
is_side side None = false
is_side side (Some piece) = colour_number piece.colour == colour_number side

-- a piece of this kind stands there
abbrev pub is_kind : Kind → Place → Bool
is_kind k None = false
is_kind k (Some piece) = kind_number piece.kind == kind_number k

abbrev pub bit_for : Bool → ℕ
bit_for true = 1
bit_for false = 0

-- the squares whose places pass the test
unfoldable pub bitboard_of : (Place → Bool) → Board → ℕ
bitboard_of test [] = 0
bitboard_of test (place ∷ rest) = bit_for (test place) + 2 * bitboard_of test rest

abbrev pub colours : List Colour
colours = White ∷ Black ∷ []

abbrev pub kinds : List Kind
kinds = Pawn ∷ Knight ∷ Bishop ∷ Rook ∷ Queen ∷ King ∷ []

-- the squares of each side's pieces, and of each kind's
unfoldable pub bitboards_of : Board → Bitboards
bitboards_of board = record {
  sides = map (λ c. bitboard_of (is_side c) board) colours;
  kinds = map (λ k. bitboard_of (is_kind k) board) kinds;
}

abbrev pub pieces : List Piece
pieces = map (piece_of White) kinds ++ map (piece_of Black) kinds

-- the square is one of its side's and one of its kind's
abbrev pub is_on : Bitboards → ℕ → Piece → Bool
is_on m square piece =
    bit_at (bit_and (slice_index_or m.sides (colour_number piece.colour) 0)
    (slice_index_or m.kinds (kind_number piece.kind) 0)) square == 1

-- the board of these pieces
unfoldable pub board_of : Bitboards → Board
board_of m = map (λ square. find (is_on m square) pieces) (range_with_len 0 64)
