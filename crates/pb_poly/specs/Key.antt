-- Keys of setups: the offsets into the table that a setup has, and the exclusive or of the random
-- numbers there, as a function and bit by bit as a relation.
use Rattle.std.specs.Prelude.{◌≡◌, ◌≢◌, ◌↔◌, ℕ, ◌+◌, ◌-◌, ◌*◌, ◌%◌, ◌^◌, ◌<◌, Bool, not, ◌&&◌}
use Rattle.std.specs.Prelude.{◌||◌, ◌==◌, Some, None, List, [], ◌∷◌, ◌++◌}
use Rattle.std.specs.Prelude.{AllPairs, Contains, fold, sum_by, slice_index, bit_xor}
use Rattle.std.specs.Int.{bit_at}
use Rattle.std.specs.Option.{option_map_or}
use Rattle.pb_board.specs.declared.piece.Colour.{Colour}
use Rattle.pb_board.specs.declared.piece.Colour.TheVariants.{White}
use Rattle.pb_board.specs.declared.piece.Piece.{Piece}
use Rattle.pb_board.specs.declared.piece.Kind.TheVariants.{Pawn}
use Rattle.pb_board.specs.Piece.{colour_number, piece_number, piece_of}
use Rattle.pb_board.specs.Position.{Position, double_stepped}
use Rattle.pb_board.specs.Board.{Board, file, rank, at, Holds, is_piece}
use Rattle.pb_board.specs.Rights.{of_rights, only_if}
use Rattle.pb_moves.specs.Attacks.{files_apart}

-- the offset of a piece on a square
abbrev pub piece_offset : Piece → ℕ → ℕ
piece_offset p square = 64 * piece_number p + square

-- ---- the key as a function of the table and the setup

-- the offsets of what stands on the squares from this one on
abbrev pub piece_offsets : Board → ℕ → List ℕ
piece_offsets [] square = []
piece_offsets (None ∷ board) square = piece_offsets board (square + 1)
piece_offsets (Some p ∷ board) square =
    (64 * piece_number p + square) ∷ piece_offsets board (square + 1)

-- a pawn of the side to move stands directly beside the square, one file lower or higher
abbrev pub has_capturer : Board → Colour → ℕ → Bool
has_capturer board turn q =
    (not (file q == 0) && is_piece (piece_of turn Pawn) (at board (q - 1)))
    || (not (file q == 7) && is_piece (piece_of turn Pawn) (at board (q + 1)))

-- the offset of the en passant square, if a pawn of the mover stands beside the one that made the
-- double step, whether or not it may take
abbrev pub en_passant_offsets : Position → List ℕ
en_passant_offsets s = option_map_or
    (λ q. only_if (has_capturer s.board s.turn (double_stepped s.turn q)) (772 + file q)) s.ep []

-- all offsets of a setup, each once: of pieces, castling rights, en passant and White to move
abbrev pub offsets : Position → List ℕ
offsets s = piece_offsets s.board 0 ++ (of_rights s.rights 768 769 770 771
    ++ (en_passant_offsets s ++ only_if (colour_number s.turn == 0) 780))

-- the exclusive or of the numbers at these offsets
unfoldable pub key : List ℕ → Position → ℕ
key randoms s = fold (λ k offset. bit_xor k (slice_index randoms offset)) 0 (offsets s)

-- ---- the same as a relation

-- a pawn of the side to move stands directly beside the pawn that made the double step
pub record HasCapturer (s : Position) (square : ℕ) : Type 0 where
  pub capturer : ℕ
  pub stands : Holds s.board capturer (piece_of s.turn Pawn)
  pub same_rank : rank capturer ≡ rank (double_stepped s.turn square)
  pub next_file : files_apart capturer (double_stepped s.turn square) ≡ 1

-- the setup has this offset into the table
pub data HasOffset (s : Position) (offset : ℕ) : Type 0 where
  of_piece : (square : ℕ) (p : Piece) → Holds s.board square p → offset ≡ piece_offset p square
      → HasOffset s offset
  of_right : Contains (of_rights s.rights 768 769 770 771) offset → HasOffset s offset
  en_passant : (square : ℕ) → s.ep ≡ Some square → HasCapturer s square
      → offset ≡ 772 + file square → HasOffset s offset
  white_to_move : s.turn ≡ White → offset ≡ 780 → HasOffset s offset

-- the offsets that the setup has, each once, in any order
pub record AreOffsets (s : Position) (offsets : List ℕ) : Type 0 where
  pub once : AllPairs (λ a b. a ≢ b) offsets
  pub each : (offset : ℕ) → Contains offsets offset ↔ HasOffset s offset

-- bit by bit: 1 exactly if an odd number of the numbers at the setup's offsets have it
pub record IsKey (randoms : List ℕ) (s : Position) (key : ℕ) : Type 0 where
  pub below : key < 2 ^ 64
  pub offsets : List ℕ
  pub are : AreOffsets s offsets
  pub bits : (bit : ℕ) → bit < 64
      → bit_at key bit ≡ sum_by (λ offset. bit_at (slice_index randoms offset) bit) offsets % 2
