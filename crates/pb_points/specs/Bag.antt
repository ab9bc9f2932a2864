-- Rows of which a key and a code may have several: their points and plies add up.
use Rattle.std.specs.Prelude.{◌≡◌, ℕ, ◌<◌, ◌≤◌, ◌^◌, nat_lt, if◌then◌else◌, IsTrue, Option, Some}
use Rattle.std.specs.Prelude.{None, List, AllPairs, count_by, sum_by, length, slice_index_or}
use Rattle.pb_points.specs.declared.row.Row.{Row}
use Rattle.pb_points.specs.Rows.{IsBelow, is_row}
use Rattle.pb_points.specs.Tally.{Held}

-- how many rows a key and a code have
abbrev pub count_of : List Row → ℕ → ℕ → ℕ
count_of rows k c = count_by (is_row k c) rows

-- a field of a row, where it is of this key and this code
abbrev pub gain : (Row → ℕ) → ℕ → ℕ → Row → ℕ
gain field k c r = if is_row k c r then field r else 0

-- the sum of a field over all rows of a key and a code
abbrev pub total : (Row → ℕ) → List Row → ℕ → ℕ → ℕ
total field rows k c = sum_by (gain field k c) rows

abbrev pub points_of : List Row → ℕ → ℕ → ℕ
points_of = total (λ r. r.points)

abbrev pub times_of : List Row → ℕ → ℕ → ℕ
times_of = total (λ r. r.times)

-- what the rows of a key and a code hold together
abbrev pub bag_content : List Row → ℕ → ℕ → Option Held
bag_content rows k c = if nat_lt 0 (count_of rows k c)
    then Some (record { points = points_of rows k c; times = times_of rows k c }) else None

-- no sum of points or of plies is greater than 2^63
pub record SumsFit (rows : List Row) : Type 0 where
  pub points : (k c : ℕ) → points_of rows k c ≤ 2 ^ 63
  pub times : (k c : ℕ) → times_of rows k c ≤ 2 ^ 63

-- the same is held of each key and code
abbrev pub HoldsSame : List Row → List Row → Type 0
HoldsSame old new = (k c : ℕ) → bag_content new k c ≡ bag_content old k c

-- at the index is a row of this key and this code
abbrev pub IsRowAt : List Row → ℕ → ℕ → ℕ → Type 0
IsRowAt rows index k c = (index < length rows) × IsTrue
    (is_row k c (slice_index_or rows index (record { key = 0; code = 0; points = 0; times = 0 })))

-- one row for each key and code of the rows, in order, with what they hold together
pub record IsAddedUp (rows sums : List Row) : Type 0 where
  pub rise : AllPairs IsBelow sums
  pub same : HoldsSame rows sums
