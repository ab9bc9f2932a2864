-- Runs of bytes of one kind at the front of a text.
use Rattle.std.specs.Prelude.{ℕ, ◌<◌, ◌≤◌, List, length, slice_index}

-- the first n bytes are of the kind, and no more
pub record IsRun (P : ℕ → Type 0) (bytes : List ℕ) (n : ℕ) : Type 0 where
  pub fits : n ≤ length bytes
  pub inside : (k : ℕ) → k < n → P (slice_index bytes k)
  pub ends : n < length bytes → ¬ P (slice_index bytes n)
