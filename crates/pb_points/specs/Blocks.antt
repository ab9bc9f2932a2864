-- Rows in blocks.
use Rattle.std.specs.Prelude.{◌≡◌, ℕ, Some, List, ◌++◌, slice_get, slice_set, Vec}
use Rattle.std.specs.List.{flat_map}
use Rattle.std.specs.declared.alloc.Global.{Global}
use Rattle.pb_points.specs.declared.blocks.Blocks.{Blocks}
use Rattle.pb_points.specs.declared.row.Row.{Row}
use Rattle.pb_points.specs.Bag.{IsRowAt}
use Rattle.pb_points.specs.ListTally.{with_more}
use Rattle.pb_points.specs.Rows.{row_at}

-- the rows of all blocks, one block after the other
abbrev pub rows_in : List (Vec Row Global) → List Row
rows_in blocks = flat_map (λ block. block.items) blocks

-- the rows of the full blocks, and then those of the last one
abbrev pub rows_of : Blocks → List Row
rows_of blocks = rows_in blocks.full.items ++ blocks.last.items

-- in this block, at the index, is a row of this key and this code
abbrev pub IsRowIn : List (Vec Row Global) → ℕ → ℕ → ℕ → ℕ → Type 0
IsRowIn blocks i index k c =
    (block : Vec Row Global) × (slice_get blocks i ≡ Some block) × IsRowAt block.items index k c

-- one ply more, of n points, is in a row of this key and this code, and no other row has changed
pub record AddsThere (old new : List Row) (k c n : ℕ) : Type 0 where
  pub index : ℕ
  pub there : IsRowAt old index k c
  pub added : new ≡ slice_set old index (with_more n (row_at old index))
