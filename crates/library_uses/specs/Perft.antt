-- Perft: how many sequences of legal moves begin in a position.
use Rattle.std.specs.Prelude.{◌≡◌, ◌≢◌, ◌↔◌, ℕ, List, length, AllPairs, Contains}
use Rattle.pb_board.specs.Position.{Position}
use Rattle.pb_moves.specs.Played.{AreLegal}

-- so many are such: a list of this length has each of them, no other, and none twice
pub record Counts {X : Type 0} (Such : X → Type 0) (number : ℕ) : Type 0 where
  pub list : List X
  pub each : (x : X) → Contains list x ↔ Such x
  pub once : AllPairs (λ a b. a ≢ b) list
  pub many : length list ≡ number

-- the number of sequences of `depth` moves from the position, each move legal where it is played
abbrev pub IsPerft : Position → ℕ → ℕ → Type 0
IsPerft s depth number = Counts (λ moves. (length moves ≡ depth) × AreLegal s moves) number
