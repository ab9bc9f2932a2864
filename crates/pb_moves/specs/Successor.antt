-- The setup after a move as a function of setup and move, and square by square as a relation.
-- Neither means anything where the move isn't pseudo-legal (Legal.antt).
use Rattle.std.specs.Prelude.{◌≡◌, ◌≢◌, ℕ, ◌+◌, ◌-◌, ◌*◌, ◌/◌, Bool, not, ◌&&◌, ◌||◌, ◌==◌, nat_lt}
use Rattle.std.specs.Prelude.{List, [], ◌∷◌, length, All, fold, slice_set, Option, Some, None}
use Rattle.std.specs.Prelude.{is_none, unwrap_or, if◌then◌else◌}
use Rattle.std.specs.Option.{option_map_or}
use Rattle.pb_board.specs.declared.piece.Colour.{Colour}
use Rattle.pb_board.specs.declared.piece.Colour.TheVariants.{White, Black}
use Rattle.pb_board.specs.declared.piece.Kind.{Kind}
use Rattle.pb_board.specs.declared.piece.Kind.TheVariants.{Pawn, King}
use Rattle.pb_board.specs.declared.piece.Piece.{Piece}
use Rattle.pb_board.specs.declared.setup.Rights.{Rights}
use Rattle.pb_board.specs.Piece.{opponent, piece_of, kind_number}
use Rattle.pb_board.specs.Board.{Board, Place, Holds, file, rank, at}
use Rattle.pb_board.specs.Position.{Position}
use Rattle.pb_moves.specs.Attacks.{ranks_apart}
use Rattle.pb_moves.specs.Moved.{Moved}

-- e1 or e8
abbrev pub king_home : Colour → ℕ
king_home White = 4
king_home Black = 60

-- a king's move of two files from its home is castling; that a king moves is asked elsewhere
abbrev pub is_castling : Colour → Moved → Bool
is_castling side m = m.from == king_home side && (m.to == m.from + 2 || m.from == m.to + 2)

-- the home of the rook that goes with such a king
abbrev pub rook_home : Moved → ℕ
rook_home m = if nat_lt m.from m.to then m.to + 1 else m.to - 2

-- the square in the middle, which such a king crosses, or a pawn by a double step
abbrev pub middle : Moved → ℕ
middle m = (m.from + m.to) / 2

-- what changes besides `from` and `to`: the pawn that is captured en passant goes, or the rook
-- arrives where the king has crossed
abbrev pub besides : Board → Moved → Colour → Kind → List (ℕ × Place)
besides board m side Pawn = if not (file m.to == file m.from) && is_none (at board m.to)
    then (8 * rank m.from + file m.to, None) ∷ []
    else []
besides board m side King = if is_castling side m
    then (rook_home m, None) ∷ (middle m, at board (rook_home m)) ∷ []
    else []
besides board m side _ = []

-- all that changes where this piece moves, each square with what stands there then: nothing on
-- `from`, and on `to` the piece or what it is promoted to
abbrev pub changes : Board → Moved → Piece → List (ℕ × Place)
changes board m p = (m.from, None) ∷ (m.to, Some (piece_of p.colour (unwrap_or m.promo p.kind)))
    ∷ besides board m p.colour p.kind

-- the move leaves or reaches the home of this king or that of this rook
abbrev pub touches : Moved → ℕ → ℕ → Bool
touches m king rook = m.from == king || m.to == king || (m.from == rook || m.to == rook)

-- the castling rights whose king and rook the move doesn't touch; a1 is 0, e1 is 4, h1 is 7, a8 is
-- 56, e8 is 60, h8 is 63
abbrev pub rights_after : Rights → Moved → Rights
rights_after r m = record {
  white_short = r.white_short && not (touches m 4 7);
  white_long = r.white_long && not (touches m 4 0);
  black_short = r.black_short && not (touches m 60 63);
  black_long = r.black_long && not (touches m 60 56);
}

-- the en passant square: the one that a pawn's double step has crossed
abbrev pub en_passant_after : Moved → Piece → Option ℕ
en_passant_after m p = if kind_number p.kind == 0 && ranks_apart m.from m.to == 2
    then Some (middle m)
    else None

-- the setup after the move: on its board the squares of `changes` hold what these say
unfoldable pub after : Position → Moved → Position
after s m = option_map_or (λ p. record {
  board = fold (λ board c. slice_set board c.0 c.1) s.board (changes s.board m p);
  turn = opponent s.turn;
  rights = rights_after s.rights m;
  ep = en_passant_after m p;
}) (at s.board m.from) s

-- ---- the same as a relation

-- the new board has 64 squares, on each named one it holds what is named, and every other one is as
-- it was
pub record Differs (old new : Board) (now : List (ℕ × Place)) : Type 0 where
  pub squares : length new ≡ 64
  pub named : All (λ c. at new c.0 ≡ c.1) now
  pub others : (q : ℕ) → All (λ c. q ≢ c.0) now → at new q ≡ at old q

-- t is the setup after the move, square by square
pub record IsAfter (s : Position) (m : Moved) (t : Position) : Type 0 where
  pub piece : Piece
  pub stands : Holds s.board m.from piece
  pub board : Differs s.board t.board (changes s.board m piece)
  pub turn : t.turn ≡ opponent s.turn
  pub rights : t.rights ≡ rights_after s.rights m
  pub ep : t.ep ≡ en_passant_after m piece
