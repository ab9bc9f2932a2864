-- Sides and pieces.
use Rattle.std.specs.Prelude.{ℕ, ◌+◌, ◌-◌, ◌*◌}
use Rattle.pb_board.specs.declared.piece.Colour.{Colour}
use Rattle.pb_board.specs.declared.piece.Colour.TheVariants.{White, Black}
use Rattle.pb_board.specs.declared.piece.Kind.{Kind}
use Rattle.pb_board.specs.declared.piece.Kind.TheVariants.{Pawn, Knight, Bishop, Rook, Queen, King}
use Rattle.pb_board.specs.declared.piece.Piece.{Piece}

abbrev pub opponent : Colour → Colour
opponent White = Black
opponent Black = White

abbrev pub piece_of : Colour → Kind → Piece
piece_of side kind = record { colour = side; kind = kind }

abbrev pub king_of : Colour → Piece
king_of colour = record { colour = colour; kind = King }

abbrev pub pawn_of : Colour → Piece
pawn_of colour = record { colour = colour; kind = Pawn }

abbrev pub rook_of : Colour → Piece
rook_of colour = record { colour = colour; kind = Rook }

abbrev pub colour_number : Colour → ℕ
colour_number White = 0
colour_number Black = 1

abbrev pub kind_number : Kind → ℕ
kind_number Pawn = 0
kind_number Knight = 1
kind_number Bishop = 2
kind_number Rook = 3
kind_number Queen = 4
kind_number King = 5

-- the pieces in PolyGlot's order: black pawn, white pawn, black knight, ..
abbrev pub piece_number : Piece → ℕ
piece_number p = 2 * kind_number p.kind + (1 - colour_number p.colour)
