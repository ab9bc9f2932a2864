-- Sums of points and plies by key and code.
use Rattle.std.specs.BTreeMap.{BTreeMap}
use Rattle.std.specs.Prelude.{ℕ}
use Rattle.pb_points.specs.declared.row.Row.{Row}
use Rattle.pb_points.specs.Tally.{Held}
use Rattle.library_uses.specs.declared.tallies.Sum.{Sum}
use Rattle.library_uses.specs.declared.tallies.TreeTally.{TreeTally}

-- the sums of a tally
abbrev pub sums_of : TreeTally → BTreeMap (ℕ × ℕ) Sum
sums_of t = t.sums

-- what a sum holds
abbrev pub sum_held : Sum → Held
sum_held s = record { points = s.points; times = s.times }

-- the row of a key, a code and their sum
abbrev pub row_of : (ℕ × ℕ) × Sum → Row
row_of e = record { key = e.0.0; code = e.0.1; points = e.1.points; times = e.1.times }
