-- Positions and records, and the rules that they meet (PGN Standard 1994, section 16.1).
use Rattle.std.specs.Prelude.{◌≡◌, ◌↔◌, ℕ, ◌+◌, ◌-◌, ◌<◌, ◌^◌, length}
use Rattle.std.specs.Prelude.{Option, Some, None, IfSome, slice_set}
use Rattle.pb_board.specs.declared.piece.Colour.{Colour}
use Rattle.pb_board.specs.declared.piece.Colour.TheVariants.{White, Black}
use Rattle.pb_board.specs.declared.piece.Piece.{Piece}
use Rattle.pb_board.specs.declared.setup.Rights.{Rights}
use Rattle.pb_board.specs.declared.piece.Kind.TheVariants.{King, Pawn}
use Rattle.pb_board.specs.Piece.{opponent, piece_of}
use Rattle.pb_board.specs.Board.{Board, rank, rank_for, Holds, IsEmpty}

-- a board, a side to move, the castling rights and the en passant square: a setup, if it keeps the
-- rules of `IsSetup`
pub record Position : Type 0 where
  pub board : Board
  pub turn : Colour
  pub rights : Rights
  pub ep : Option ℕ

abbrev pub position_of : Board → Colour → Rights → Option ℕ → Position
position_of board turn rights ep = record { board = board; turn = turn; rights = rights; ep = ep }

-- the king of this side stands on this square, and on no other
abbrev pub IsOnlyKing : Board → Colour → ℕ → Type 0
IsOnlyKing board side king = (q : ℕ) → Holds board q (piece_of side King) ↔ (q ≡ king)

-- each side has exactly one king
abbrev pub HasKings : Board → Type 0
HasKings board = (side : Colour) → (king : ℕ) × IsOnlyKing board side king

-- no pawn stands on rank 1 or 8
abbrev pub HasNoEdgePawn : Board → Type 0
HasNoEdgePawn board = (q : ℕ) (side : Colour) → Holds board q (piece_of side Pawn)
    → (0 < rank q) × (rank q < 7)

-- where the pawn stands that made a double step over this en passant square: on the next square
-- towards this side, which is to move
abbrev pub double_stepped : Colour → ℕ → ℕ
double_stepped White q = q - 8
double_stepped Black q = q + 8

-- the square is on the sixth rank of the side to move
abbrev pub OnEnPassantRank : Colour → ℕ → Type 0
OnEnPassantRank turn q = rank_for turn q ≡ 5

-- an en passant square is on that rank and empty, and an enemy pawn stands where one stands after
-- its double step
abbrev pub EnPassantHolds : Board → Colour → Option ℕ → Type 0
EnPassantHolds board turn ep = IfSome ep (λ q. OnEnPassantRank turn q
    × (IsEmpty board q × Holds board (double_stepped turn q) (piece_of (opponent turn) Pawn)))

-- The rules that every setup meets. Castling rights are those of the record, wherever the kings and
-- rooks stand.
pub record IsSetup (p : Position) : Type 0 where
  pub places : length p.board ≡ 64
  pub kings : HasKings p.board
  pub pawns : HasNoEdgePawn p.board
  pub en_passant : EnPassantHolds p.board p.turn p.ep

-- a setup and the two clocks: plies since the last capture or pawn's move, and the number of the
-- move, from 1
pub record Record : Type 0 where
  pub setup : Position
  pub half : ℕ
  pub full : ℕ

abbrev pub record_of : Position → ℕ → ℕ → Record
record_of setup half full = record { setup = setup; half = half; full = full }

-- the rules that every record meets: a setup, clocks that fit in 16 bits, and moves counted from 1
pub record IsRecord (f : Record) : Type 0 where
  pub setup : IsSetup f.setup
  pub half : f.half < 2 ^ 16
  pub low : 0 < f.full
  pub full : f.full < 2 ^ 16

-- the board after a piece has gone from one square to another, in the place of what stood there
abbrev pub with_piece_moved : Board → ℕ → ℕ → Piece → Board
with_piece_moved board from to piece = slice_set (slice_set board from None) to (Some piece)
