-- Move codes of PolyGlot books: 15 bits, by three from the lowest: the file and the rank of the
-- square that the move reaches, the file and the rank of the square that it leaves, and the
-- promotion. Castling is coded as the king's move to its rook.
use Rattle.std.specs.Prelude.{◌≡◌, ℕ, ◌+◌, ◌*◌, ◌&&◌, if◌then◌else◌}
use Rattle.std.specs.Option.{option_map_or}
use Rattle.pb_board.specs.Piece.{kind_number, piece_of}
use Rattle.pb_board.specs.declared.piece.Kind.TheVariants.{King}
use Rattle.pb_board.specs.Position.{Position}
use Rattle.pb_board.specs.Board.{file, rank, at, is_piece}
use Rattle.pb_moves.specs.Moved.{Moved}
use Rattle.pb_moves.specs.Legal.{Legal}
use Rattle.pb_moves.specs.Successor.{is_castling, rook_home}

-- the square that an encoded move names as reached: castling goes to the rook's square
abbrev pub encoded_to : Position → Moved → ℕ
encoded_to s m = if is_piece (piece_of s.turn King) (at s.board m.from) && is_castling s.turn m
    then rook_home m
    else m.to

-- the code of a move in this setup
abbrev pub encode_move : Position → Moved → ℕ
encode_move s m =
    file (encoded_to s m) + 8 * rank (encoded_to s m) + 64 * file m.from + 512 * rank m.from
    + 4096 * option_map_or kind_number m.promo 0

-- a legal move with this code
pub record HasCode (s : Position) (m : Moved) (number : ℕ) : Type 0 where
  pub legal : Legal s m
  pub code_is : encode_move s m ≡ number
