-- Rows of points, at most one for each key and code, and the book that is made of them.
use Rattle.std.specs.Prelude.{◌≡◌, ℕ, ◌<◌, ◌≤◌, ◌⊎◌, ◌↔◌, Bool, List, AllPairs}
use Rattle.std.specs.Prelude.{Contains, nat_le, slice_index_or}
use Rattle.std.specs.List.{filter}
use Rattle.pb_poly.specs.declared.book.Entry.{Entry}
use Rattle.pb_points.specs.declared.row.Row.{Row}
use Rattle.pb_points.specs.Tally.{is_pair}
use Rattle.pb_points.specs.Weight.{Before, scaled}

-- the row is of this key and this code
abbrev pub is_row : ℕ → ℕ → Row → Bool
is_row k c r = is_pair r.key r.code k c

-- both rows are of one key and one code
abbrev pub same_pair : Row → Row → Bool
same_pair r s = is_row r.key r.code s

-- key rising, then code rising
abbrev pub IsBelow : Row → Row → Type 0
IsBelow r s = (r.key < s.key) ⊎ ((r.key ≡ s.key) × (r.code < s.code))

-- the row doesn't come after the other
abbrev pub IsUpTo : Row → Row → Type 0
IsUpTo r s = IsBelow r s ⊎ ((r.key ≡ s.key) × (r.code ≡ s.code))

-- the row at an index
abbrev pub row_at : List Row → ℕ → Row
row_at rows i = slice_index_or rows i (record { key = 0; code = 0; points = 0; times = 0 })

-- M is the greatest number of points of the rows with this key
pub record IsTop (rows : List Row) (k M : ℕ) : Type 0 where
  pub above : (r : Row) → Contains rows r → r.key ≡ k → r.points ≤ M
  pub met : (r : Row) × Contains rows r × (r.key ≡ k) × (r.points ≡ M)

-- the row gives this entry to the book: its move, with its points scaled by the greatest of its
-- key, where that isn't 0
pub record Gives (rows : List Row) (r : Row) (e : Entry) : Type 0 where
  pub greatest : ℕ
  pub top : IsTop rows r.key greatest
  pub key : e.key ≡ r.key
  pub code : e.code ≡ r.code
  pub weight : e.weight ≡ scaled r.points greatest
  pub some : 1 ≤ e.weight
  pub learn : e.learn ≡ 0

-- the entries are the book of the rows
pub record IsBookOfRows (rows : List Row) (entries : List Entry) : Type 0 where
  pub ordered : AllPairs Before entries
  pub members : (e : Entry) → Contains entries e ↔ ((r : Row) × Contains rows r × Gives rows r e)

-- the rows of what occurs so often
abbrev pub frequent : ℕ → List Row → List Row
frequent least rows = filter (λ r. nat_le least r.times) rows

-- the rows whose keys are this one or above it
abbrev pub from : ℕ → List Row → List Row
from first rows = filter (λ r. nat_le first r.key) rows
