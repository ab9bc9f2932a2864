-- A tally of narrow rows in blocks, with wide rows beside them.
use Rattle.std.specs.Prelude.{◌≡◌, ℕ, ◌<◌, ◌⊎◌, List, [], ◌∷◌, ◌++◌, length, Vec}
use Rattle.std.specs.declared.alloc.Global.{Global}
use Rattle.std.specs.List.{IsDistinct}
use Rattle.pb_points.specs.declared.blocks.Blocks.{Blocks}
use Rattle.pb_points.specs.declared.row.Row.{Row}
use Rattle.pb_points.specs.Bag.{HoldsSame, SumsFit, count_of}
use Rattle.pb_points.specs.Blocks.{AddsThere, rows_of}
use Rattle.pb_points.specs.Rows.{row_at, same_pair}

-- the narrow rows and then the wide ones
abbrev pub all_of : Blocks → Vec Row Global → List Row
all_of blocks wide = rows_of blocks ++ wide.items

-- one ply more, of n points, is in the row of this key and this code, or in a new one where there
-- was none
abbrev pub AddsWide : List Row → List Row → ℕ → ℕ → ℕ → Type 0
AddsWide old new k c n = AddsThere old new k c n ⊎ ((count_of old k c ≡ 0)
    × (new ≡ old ++ record { key = k; code = c; points = n; times = 1 } ∷ []))

-- of the wide rows no two are of one key and one code, and each has a narrow row of its key and
-- code
pub record Spills (narrow wide : List Row) : Type 0 where
  pub distinct : IsDistinct same_pair wide
  pub there : (j : ℕ) → j < length wide
      → 0 < count_of narrow (row_at wide j).key (row_at wide j).code

-- what is always true of the narrow rows and the wide ones
pub record AreSound (narrow wide : List Row) : Type 0 where
  pub fit : SumsFit (narrow ++ wide)
  pub spills : Spills narrow wide

-- the narrow rows and the wide ones hold what these rows hold, and are a narrow one for each
pub record AreNarrowed (sums narrow wide : List Row) : Type 0 where
  pub same : HoldsSame sums (narrow ++ wide)
  pub many : length narrow ≡ length sums
  pub spills : Spills narrow wide
