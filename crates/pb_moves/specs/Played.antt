-- Moves played one after the other.
use Rattle.std.specs.Prelude.{◌≡◌, ℕ, List, [], ◌∷◌}
use Rattle.pb_board.specs.Position.{Position, Record}
use Rattle.pb_moves.specs.Clocks.{record_after}
use Rattle.pb_moves.specs.Legal.{Legal}
use Rattle.pb_moves.specs.Moved.{Moved, IsMove}
use Rattle.pb_moves.specs.Spelling.{spelling}
use Rattle.pb_moves.specs.Successor.{after}

-- the word spells the move
pub record Spells (word : List ℕ) (m : Moved) : Type 0 where
  pub is_move : IsMove m
  pub is : word ≡ spelling m

-- the word spells a move
abbrev pub IsSpelled : List ℕ → Type 0
IsSpelled word = (m : Moved) × Spells word m

-- the record after these moves, each of them legal where it is played
abbrev pub Plays : Record → List Moved → Record → Type 0
Plays f [] g = g ≡ f
Plays f (m ∷ ms) g = Legal f.setup m × Plays (record_after f m) ms g

-- each of the moves is legal where it is played
abbrev pub AreLegal : Position → List Moved → Type 0
AreLegal s [] = Unit {0}
AreLegal s (m ∷ ms) = Legal s m × AreLegal (after s m) ms

-- a move, and the setup before it
abbrev pub Ply : Type 0
Ply = Position × Moved

-- the moves, each with the setup before it
abbrev pub plies_from : Position → List Moved → List (Position × Moved)
plies_from s [] = []
plies_from s (m ∷ ms) = (s, m) ∷ plies_from (after s m) ms
