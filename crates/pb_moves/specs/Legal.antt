-- The legal moves of chess. A square is its index, 8 * rank + file.
--
--   who         to                                             besides
--   any piece   an enemy that it attacks, other than a king
--   not a pawn  an empty square that it attacks
--   a pawn      the en passant square, if it attacks it        the pawn beside `from` goes
--   a pawn      a rank forward, or two from its first square,
--               where the way and the square are empty
--   the king    two files from its home, where it may castle   the rook moves too
use Rattle.std.specs.Prelude.{◌≡◌, ◌≢◌, ℕ, ◌⊎◌, ◌↔◌, Bool, nat_lt, Some, IsTrue, IsSome}
use Rattle.std.specs.Prelude.{if◌then◌else◌}
use Rattle.pb_board.specs.declared.piece.Colour.{Colour}
use Rattle.pb_board.specs.declared.piece.Colour.TheVariants.{White, Black}
use Rattle.pb_board.specs.declared.piece.Kind.{Kind}
use Rattle.pb_board.specs.declared.piece.Kind.TheVariants.{Pawn, Rook, King}
use Rattle.pb_board.specs.declared.setup.Rights.{Rights}
use Rattle.pb_board.specs.Piece.{opponent, piece_of}
use Rattle.pb_board.specs.Board.{file, rank_for, Holds, IsEmpty, IsForward}
use Rattle.pb_board.specs.Position.{Position}
use Rattle.pb_moves.specs.Attacks.{Attacks, Clear, IsAttacked, InCheck}
use Rattle.pb_moves.specs.Moved.{Moved, IsMove}
use Rattle.pb_moves.specs.Successor.{after, is_castling, middle, rook_home}

-- an enemy piece other than the king stands there
abbrev pub IsCapturable : Position → ℕ → Type 0
IsCapturable s square =
    (kind : Kind) × (kind ≢ King) × Holds s.board square (piece_of (opponent s.turn) kind)

-- where a piece of this kind may go that attacks the square
abbrev pub MayLand : Position → Kind → ℕ → Type 0
MayLand s Pawn square = IsCapturable s square ⊎ (s.ep ≡ Some square)
MayLand s _ square = IsCapturable s square ⊎ IsEmpty s.board square

-- a pawn may go straight on: one rank, or two from its first square
pub record Pushes (s : Position) (m : Moved) : Type 0 where
  pub same_file : file m.to ≡ file m.from
  pub forward : IsForward s.turn 1 m.from m.to
      ⊎ ((rank_for s.turn m.from ≡ 1) × IsForward s.turn 2 m.from m.to)
  pub way : Clear s.board m.from m.to
  pub empty : IsEmpty s.board m.to

-- the right of this side to castle short, or else long
abbrev pub has_right : Rights → Colour → Bool → Bool
has_right r White is_short = if is_short then r.white_short else r.white_long
has_right r Black is_short = if is_short then r.black_short else r.black_long

-- The king of the side to move may go two files from its home: with the castling right and the
-- rook, over empty squares, and the enemy attacks neither its home nor the square that it crosses.
-- That it isn't in check where it arrives `Legal` asks, as of every move.
pub record Castles (s : Position) (m : Moved) : Type 0 where
  pub goes : IsTrue (is_castling s.turn m)
  pub right : IsTrue (has_right s.rights s.turn (nat_lt m.from m.to))
  pub rook : Holds s.board (rook_home m) (piece_of s.turn Rook)
  pub way : Clear s.board m.from (rook_home m)
  pub unchecked : ¬ IsAttacked s.board (opponent s.turn) m.from
  pub crosses : ¬ IsAttacked s.board (opponent s.turn) (middle m)

-- where a piece of this kind of the side to move may go, its own king's safety apart
abbrev pub MayGo : Position → Moved → Kind → Type 0
MayGo s m kind = (Attacks s.turn kind s.board m.from m.to × MayLand s kind m.to)
    ⊎ (((kind ≡ Pawn) × Pushes s m) ⊎ ((kind ≡ King) × Castles s m))

-- a piece of the side to move may go so, and a promotion is named just where a pawn reaches the
-- last rank
pub record PseudoLegal (s : Position) (m : Moved) : Type 0 where
  pub is_move : IsMove m
  pub kind : Kind
  pub stands : Holds s.board m.from (piece_of s.turn kind)
  pub goes : MayGo s m kind
  pub promotes : IsSome m.promo ↔ ((kind ≡ Pawn) × (rank_for s.turn m.to ≡ 7))

-- pseudo-legal, and the mover isn't in check afterwards
pub record Legal (s : Position) (m : Moved) : Type 0 where
  pub moves : PseudoLegal s m
  pub safe : ¬ InCheck (after s m).board s.turn
