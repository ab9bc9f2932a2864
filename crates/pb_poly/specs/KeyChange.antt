-- The offsets into the table whose numbers a move toggles in a key.
use Rattle.std.specs.Prelude.{ℕ, ◌+◌, not, Option, Some, None, List, []}
use Rattle.std.specs.Prelude.{◌∷◌, ◌++◌, fold, slice_index, bit_xor}
use Rattle.std.specs.Bool.{beq}
use Rattle.std.specs.Option.{option_map_or}
use Rattle.pb_board.specs.declared.piece.Piece.{Piece}
use Rattle.pb_board.specs.declared.setup.MovedPiece.{MovedPiece}
use Rattle.pb_board.specs.declared.setup.Rights.{Rights}
use Rattle.pb_board.specs.Board.{Board, Place, file, at}
use Rattle.pb_board.specs.Piece.{opponent}
use Rattle.pb_board.specs.Position.{Position}
use Rattle.pb_board.specs.Rights.{of_rights, only_if}
use Rattle.pb_moves.specs.declared.effect.Effect.{Effect}
use Rattle.pb_poly.specs.Key.{has_capturer, piece_offset}

-- a key with the numbers at these offsets toggled: exclusive or takes each in, and takes it out
-- where it was in
abbrev pub toggled : List ℕ → ℕ → List ℕ → ℕ
toggled randoms key offsets = fold (λ k offset. bit_xor k (slice_index randoms offset)) key offsets

-- the offset of what stands on the square
abbrev pub square_offsets : Place → ℕ → List ℕ
square_offsets None square = []
square_offsets (Some p) square = piece_offset p square ∷ []

-- a piece leaves its square, and what it is then arrives
abbrev pub going_offsets : Piece → MovedPiece → List ℕ
going_offsets leaving c = piece_offset leaving c.from ∷ piece_offset c.piece c.to ∷ []

-- the first piece goes, what stood where it arrives is taken, and the second goes where there is
-- one
abbrev pub moved_offsets : Board → Effect → List ℕ
moved_offsets board e = going_offsets e.piece e.first
    ++ (square_offsets (at board e.first.to) e.first.to
    ++ option_map_or (λ c. going_offsets c.piece c) e.second [])

-- the offsets of the rights that one of the two has
abbrev pub changed_offsets : Rights → Rights → List ℕ
changed_offsets old new = of_rights (record {
  white_short = not (beq old.white_short new.white_short);
  white_long = not (beq old.white_long new.white_long);
  black_short = not (beq old.black_short new.black_short);
  black_long = not (beq old.black_long new.black_long);
}) 768 769 770 771

-- after a double step to this square: the offset of the en passant square, where an enemy pawn
-- stands beside the pawn
abbrev pub stepped_offsets : Position → ℕ → Option ℕ → List ℕ
stepped_offsets s to ep = option_map_or
    (λ q. only_if (has_capturer s.board (opponent s.turn) to) (772 + file q)) ep []
