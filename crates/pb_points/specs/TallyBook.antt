-- The book of a tally.
use Rattle.std.specs.Prelude.{◌≡◌, ℕ, ◌↔◌, Bool, ◌&&◌, nat_le, nat_lt, if◌then◌else◌}
use Rattle.std.specs.Prelude.{Option, None, Some, List, ◌++◌, Contains}
use Rattle.pb_poly.specs.declared.book.Entry.{Entry}
use Rattle.pb_points.specs.declared.row.Row.{Row}
use Rattle.pb_points.specs.Rows.{IsBookOfRows, frequent}
use Rattle.pb_points.specs.Tally.{Content, held_of}

-- these are the rows of a tally
abbrev pub AreRows : Content → List Row → Type 0
AreRows content rows = (r : Row) → Contains rows r ↔ (content r.key r.code ≡ Some (held_of r))

-- the key is in the stretch that begins with `first` and ends before the next one, if there is one
abbrev pub is_within : ℕ → Option ℕ → ℕ → Bool
is_within first None k = nat_le first k
is_within first (Some next) k = nat_le first k && nat_lt k next

-- what is held of the keys of a stretch
abbrev pub stretch_of : ℕ → Option ℕ → Content → Content
stretch_of first next content k c = if is_within first next k then content k c else None

-- the new entries are the old ones and some more
abbrev pub AddsSome : List Entry → List Entry → Type 0
AddsSome old new = (some : List Entry) × (new ≡ old ++ some)

-- the book of the rows of what occurs so often was added to the entries
pub record AddsBookOf (content : Content) (least : ℕ) (old new : List Entry) : Type 0 where
  pub rows : List Row
  pub are : AreRows content rows
  pub book : List Entry
  pub is : IsBookOfRows (frequent least rows) book
  pub added : new ≡ old ++ book
