-- What of the games counts, and what points and weights rest on beside the games.
use Rattle.std.specs.Prelude.{ℕ, ◌≤◌, List}

-- so many first plies of each game count; a move is left out that occurs in all of these less than
-- `least` times under its key
pub record CountingRules : Type 0 where
  pub plies : ℕ
  pub least : ℕ

-- the numbers lie in their ranges
pub record AreRules (rules : CountingRules) : Type 0 where
  pub plies : (1 ≤ rules.plies) × (rules.plies ≤ 1024)
  pub least : (1 ≤ rules.least) × (rules.least ≤ 1000000)

-- all plies of each game count, and no move that occurs is left out for that
abbrev pub all_plies : CountingRules
all_plies = record { plies = 1024; least = 1 }

-- the random numbers of the table, of which keys are made, and what of the games counts
pub record Basis : Type 0 where
  pub randoms : List ℕ
  pub rules : CountingRules
