-- The record after a move: the setup after it, and the two clocks. It means nothing where the move
-- isn't legal.
use Rattle.std.specs.Prelude.{ℕ, ◌+◌, Bool, not, ◌||◌, is_none, min, if◌then◌else◌}
use Rattle.pb_board.specs.declared.piece.Colour.{Colour}
use Rattle.pb_board.specs.declared.piece.Colour.TheVariants.{White, Black}
use Rattle.pb_board.specs.Piece.{pawn_of}
use Rattle.pb_board.specs.Board.{at, is_piece}
use Rattle.pb_board.specs.Position.{Position, Record}
use Rattle.pb_moves.specs.Moved.{Moved}
use Rattle.pb_moves.specs.Successor.{after}

-- a pawn moves, or something is taken: a capture en passant is a pawn's move
abbrev pub resets : Position → Moved → Bool
resets s m = is_piece (pawn_of s.turn) (at s.board m.from) || not (is_none (at s.board m.to))

-- one more; a number that would pass 65,535 is 65,535
abbrev pub one_more : ℕ → ℕ
one_more n = min (n + 1) 65535

abbrev pub half_after : Record → Moved → ℕ
half_after f m = if resets f.setup m then 0 else one_more f.half

abbrev pub full_after : Colour → ℕ → ℕ
full_after White full = full
full_after Black full = one_more full

abbrev pub record_after : Record → Moved → Record
record_after f m = record {
  setup = after f.setup m;
  half = half_after f m;
  full = full_after f.setup.turn f.full;
}
