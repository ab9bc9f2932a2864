-- Where to begin to look for a key in a book.
use Rattle.std.specs.Prelude.{◌≡◌, ℕ, ◌*◌, ◌^◌, ◌<◌, ◌≤◌, true, false}
use Rattle.std.specs.Prelude.{List, length, nat_lt, slice_index}
use Rattle.std.specs.List.{AllWithin}
use Rattle.std.specs.List.Sorted.{IsPartitionPoint}
use Rattle.pb_poly.specs.declared.book.Entry.{Entry}

-- the entries before this place have lower keys
pub record IsBefore (entries : List Entry) (place floor : ℕ) : Type 0 where
  pub within : place ≤ length entries
  pub lower : AllWithin (λ e. e.key < floor) entries 0 place

-- a place for each front of 18 bits that a key may have
pub record AreFirsts (entries : List Entry) (firsts : List ℕ) : Type 0 where
  pub many : length firsts ≡ 2 ^ 18
  pub each : (front : ℕ) → front < 2 ^ 18
      → IsBefore entries (slice_index firsts front) (front * 2 ^ 46)

-- the place of the first entry whose key isn't lower
pub record IsFirstUnder (entries : List Entry) (key place : ℕ) : Type 0 where
  pub within : place ≤ length entries
  pub point : IsPartitionPoint (λ (e : Entry). nat_lt e.key key ≡ true)
      (λ (e : Entry). nat_lt e.key key ≡ false) entries place

-- that place for each of these keys
pub record AreFirstsUnder (entries : List Entry) (keys firsts : List ℕ) : Type 0 where
  pub many : length firsts ≡ length keys
  pub each : (i : ℕ) → i < length keys
      → IsFirstUnder entries (slice_index keys i) (slice_index firsts i)
