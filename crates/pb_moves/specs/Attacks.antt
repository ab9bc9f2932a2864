-- What a piece attacks, and when a side is in check.
use Rattle.std.specs.Prelude.{◌≡◌, ◌≢◌, ℕ, ◌+◌, ◌*◌, ◌<◌, ◌⊎◌, max}
use Rattle.std.specs.Int.{abs_diff}
use Rattle.pb_board.specs.declared.piece.Colour.{Colour}
use Rattle.pb_board.specs.declared.piece.Kind.{Kind}
use Rattle.pb_board.specs.declared.piece.Kind.TheVariants.{Pawn, Knight, Bishop, Rook, Queen, King}
use Rattle.pb_board.specs.Piece.{opponent, piece_of}
use Rattle.pb_board.specs.Board.{Board, file, rank, Holds, IsEmpty, IsForward}
use Rattle.pb_board.specs.Position.{Position}

-- how many files are from one square to the other, and how many ranks
abbrev pub files_apart : ℕ → ℕ → ℕ
files_apart a b = abs_diff (file a) (file b)

abbrev pub ranks_apart : ℕ → ℕ → ℕ
ranks_apart a b = abs_diff (rank a) (rank b)

-- a piece of this kind may attack what is so many files and so many ranks away
abbrev pub Pattern : Kind → ℕ → ℕ → Type 0
Pattern Pawn files ranks = (files ≡ 1) × (ranks ≡ 1)
Pattern Knight files ranks = files * ranks ≡ 2
Pattern Bishop files ranks = (files ≡ ranks) × (0 < files)
Pattern Rook files ranks = (files * ranks ≡ 0) × (0 < files + ranks)
Pattern Queen files ranks = ((files ≡ ranks) ⊎ (files * ranks ≡ 0)) × (0 < files + ranks)
Pattern King files ranks = max files ranks ≡ 1

-- q lies strictly between a and b, on the line through them
abbrev pub IsBetween : ℕ → ℕ → ℕ → Type 0
IsBetween a q b = (q ≢ a) × (q ≢ b)
    × (files_apart a q + files_apart q b ≡ files_apart a b)
    × (ranks_apart a q + ranks_apart q b ≡ ranks_apart a b)
    × (files_apart a q * ranks_apart a b ≡ ranks_apart a q * files_apart a b)

-- each square between is empty; where a pawn, a knight or a king attacks there is none between
abbrev pub Clear : Board → ℕ → ℕ → Type 0
Clear board a b = (q : ℕ) → q < 64 → IsBetween a q b → IsEmpty board q

-- from square a a piece of this side and kind attacks square b, whatever stands on the two
abbrev pub Attacks : Colour → Kind → Board → ℕ → ℕ → Type 0
Attacks side kind board a b = Pattern kind (files_apart a b) (ranks_apart a b)
    × (kind ≡ Pawn → IsForward side 1 a b) × Clear board a b

-- some piece of this side attacks the square
abbrev pub IsAttacked : Board → Colour → ℕ → Type 0
IsAttacked board side square =
    (a : ℕ) × (kind : Kind) × Holds board a (piece_of side kind) × Attacks side kind board a square

-- some enemy piece attacks the square of this side's king
abbrev pub InCheck : Board → Colour → Type 0
InCheck board side =
    (king : ℕ) × Holds board king (piece_of side King) × IsAttacked board (opponent side) king

-- the side that isn't to move isn't in check
abbrev pub IsPlayable : Position → Type 0
IsPlayable s = ¬ InCheck s.board (opponent s.turn)
