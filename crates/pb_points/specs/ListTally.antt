-- A tally that is a plain list of rows.
use Rattle.std.specs.Prelude.{ℕ, ◌+◌, Option, List}
use Rattle.std.specs.List.{find}
use Rattle.std.specs.Option.{option_map}
use Rattle.pb_points.specs.declared.row.Row.{Row}
use Rattle.pb_points.specs.Rows.{is_row}
use Rattle.pb_points.specs.Tally.{Held, held_of}

-- what the first row of a key and a code holds
abbrev pub list_content : List Row → ℕ → ℕ → Option Held
list_content rows k c = option_map held_of (find (is_row k c) rows)

-- the row with one ply more, of n points
abbrev pub with_more : ℕ → Row → Row
with_more n r = record r { points = r.points + n; times = r.times + 1 }
