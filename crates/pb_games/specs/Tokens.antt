-- The tokens of a field, and the moves that they spell.
use Rattle.std.specs.Prelude.{◌≡◌, ℕ, ◌+◌, ◌-◌, ◌*◌, List, [], ◌∷◌, map, slice_index}
use Rattle.std.specs.Prelude.{Option, Some, None, ◌==◌, if◌then◌else◌}
use Rattle.std.specs.Borrow.{Bor}
use Rattle.pb_board.specs.Fields.{fields, space}
use Rattle.pb_board.specs.declared.piece.Kind.{Kind}
use Rattle.pb_board.specs.declared.piece.Kind.TheVariants.{Knight, Bishop, Rook, Queen}
use Rattle.pb_moves.specs.Moved.{IsMove, Moved, moved_of}
use Rattle.pb_moves.specs.Played.{IsSpelled}
use Rattle.pb_moves.specs.Spelling.{spelling}

-- the tokens of a field: what stands between its spaces; an empty field has none
abbrev pub tokens_of : List ℕ → List (List ℕ)
tokens_of [] = []
tokens_of (c ∷ cs) = fields space (c ∷ cs)

-- the tokens of a text that is still to be cut, if there is one
abbrev pub tokens_left : Option (Bor (List ℕ)) → List (List ℕ)
tokens_left None = []
tokens_left (Some text) = fields space text.now

-- reading the first of these tokens gives the move that it spells, if it spells one, and leaves the
-- others
abbrev pub ReadsFirst : List (List ℕ) → Option Moved → List (List ℕ) → Type 0
ReadsFirst tokens None rest = (token : List ℕ) × (tokens ≡ token ∷ rest) × ¬ IsSpelled token
ReadsFirst tokens (Some m) rest = IsMove m × (tokens ≡ spelling m ∷ rest)

-- ---- the move of a token, which means nothing where the token spells no move

abbrev pub square_spelt : ℕ → ℕ → ℕ
square_spelt letter digit = 8 * (digit - 49) + (letter - 97)

abbrev pub promotion_spelt : ℕ → Option Kind
promotion_spelt c =
    if c == 110 then Some Knight
    else (if c == 98 then Some Bishop
    else (if c == 114 then Some Rook
    else (if c == 113 then Some Queen else None)))

abbrev pub move_spelt : List ℕ → Moved
move_spelt token =
    moved_of (square_spelt (slice_index token 0) (slice_index token 1))
    (square_spelt (slice_index token 2) (slice_index token 3))
    (promotion_spelt (slice_index token 4))

abbrev pub moves_spelt : List ℕ → List Moved
moves_spelt field = map move_spelt (tokens_of field)
