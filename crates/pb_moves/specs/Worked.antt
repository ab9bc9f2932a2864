-- Moves that every player knows. A square is its index, 8 * rank + file.
use Rattle.std.specs.Prelude.{List, [], ◌∷◌, Some, None}
use Rattle.pb_board.specs.declared.piece.Kind.TheVariants.{Queen}
use Rattle.pb_moves.specs.Moved.{Moved, moved_of}

abbrev pub e2e4 : Moved
e2e4 = moved_of 12 28 None

-- f2f3 e7e5 g2g4 d8h4
abbrev pub fools_mate : List Moved
fools_mate =
    moved_of 13 21 None ∷ moved_of 52 36 None ∷ moved_of 14 30 None ∷ moved_of 59 31 None ∷ []

-- e2e4 e7e5 g1f3 b8c6 f1c4 g8f6 e1g1: White castles
abbrev pub two_knights : List Moved
two_knights =
    e2e4 ∷ moved_of 52 36 None ∷ moved_of 6 21 None ∷ moved_of 57 42 None ∷ moved_of 5 26 None
    ∷ moved_of 62 45 None ∷ moved_of 4 6 None ∷ []

-- e2e4 a7a6 e4e5 d7d5 e5d6 a6a5 d6c7 a5a4 c7b8q: White's pawn takes en passant and promotes
abbrev pub pawn_run : List Moved
pawn_run =
    e2e4 ∷ moved_of 48 40 None ∷ moved_of 28 36 None ∷ moved_of 51 35 None ∷ moved_of 36 43 None
    ∷ moved_of 40 32 None ∷ moved_of 43 50 None ∷ moved_of 32 24 None ∷ moved_of 50 57 (Some Queen)
    ∷ []
