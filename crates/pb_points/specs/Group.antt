-- Rows and entries of one key.
use Rattle.std.specs.Prelude.{◌≡◌, ℕ, ◌<◌, List, ◌++◌, length, AllPairs, IsPermutation}
use Rattle.pb_poly.specs.declared.book.Entry.{Entry}
use Rattle.pb_points.specs.declared.row.Row.{Row}
use Rattle.pb_points.specs.Rows.{IsBookOfRows}
use Rattle.pb_points.specs.Weight.{Before}

-- rows of one key in this order
pub record IsGroup (R : Row → Row → Type 0) (rows : List Row) : Type 0 where
  pub some : 0 < length rows
  pub ordered : AllPairs R rows
  pub one : AllPairs (λ r s. r.key ≡ s.key) rows

-- entries of one key, their codes rising
abbrev pub IsEntryGroup : List Entry → Type 0
IsEntryGroup entries = AllPairs (λ e f. (e.key ≡ f.key) × (e.code < f.code)) entries

-- the entry of a row, with this weight
abbrev pub entry_with : Row → ℕ → Entry
entry_with r w = record { key = r.key; code = r.code; weight = w; learn = 0 }

-- the new entries are the old ones in a book's order
pub record Orders (old new : List Entry) : Type 0 where
  pub permutation : IsPermutation old new
  pub ordered : AllPairs Before new

-- the book of the rows was added to the entries
abbrev pub AddsBook : List Row → List Entry → List Entry → Type 0
AddsBook rows old new = (book : List Entry) × (new ≡ old ++ book) × IsBookOfRows rows book
