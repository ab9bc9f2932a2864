-- The text of a rank as a relation, byte by byte. Private functions that read and write ranks are
-- proved by it. Law `rank_text_is` ties it to `rank_text`.
use Rattle.std.specs.Prelude.{◌≡◌, ℕ, ◌+◌, ◌≤◌, ◌⊎◌, List, [], ◌∷◌, ◌++◌, replicate, Some, None}
use Rattle.pb_board.specs.declared.piece.Piece.{Piece}
use Rattle.pb_board.specs.Board.{Place}
use Rattle.pb_board.specs.Text.{piece_letter}

-- no empty square begins the list: it is at its end, or a piece stands there
abbrev pub BeginsOccupied : List Place → Type 0
BeginsOccupied [] = Unit {0}
BeginsOccupied (Some p ∷ squares) = Unit {0}
BeginsOccupied (None ∷ squares) = ⊥

-- the squares begin with a piece, whose letter is c, and go on with rest
abbrev pub PieceThen : ℕ → List Place → List Place → Type 0
PieceThen c squares rest = (p : Piece) × (c ≡ piece_letter p) × (squares ≡ Some p ∷ rest)

-- the squares begin with 1 to 8 empty ones and no more, whose number is the digit c, and go on with
-- rest
abbrev pub EmptyThen : ℕ → List Place → List Place → Type 0
EmptyThen c squares rest =
    (n : ℕ) × (1 ≤ n) × (n ≤ 8) × (c ≡ 48 + n) × (squares ≡ replicate n None ++ rest)
    × BeginsOccupied rest

-- squares in a row, from file a on, and their text
abbrev pub RankText : List Place → List ℕ → Type 0
RankText squares [] = squares ≡ []
RankText squares (c ∷ text) =
    (rest : List Place) × (PieceThen c squares rest ⊎ EmptyThen c squares rest) × RankText rest text
