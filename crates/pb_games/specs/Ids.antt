-- Ids of submissions.
use Rattle.std.specs.Prelude.{ℕ, ◌≤◌, List, [], ◌∷◌, length, All}

-- a byte of ASCII that shows something
abbrev pub IsPrintable : ℕ → Type 0
IsPrintable c = (33 ≤ c) × (c ≤ 126)

-- 1 to 64 bytes of 33 to 126
pub record IsId (bytes : List ℕ) : Type 0 where
  pub some : 1 ≤ length bytes
  pub few : length bytes ≤ 64
  pub printable : All IsPrintable bytes

-- what an id hands to a hasher: its bytes, at once
abbrev pub hashed : List ℕ → List (List ℕ)
hashed bytes = bytes ∷ []
