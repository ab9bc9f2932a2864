use Rattle.std.proofs.Common.{◌≡◌, ℕ, ◌+◌, ◌≤◌, List, ◌++◌, length, take}
use Rattle.std.specs.List.{AllZip}
use Rattle.pb_io.specs.Lines.{lines}
use Rattle.pb_poly.specs.Table.{SpellsRandom, table_length}
use Rattle.pb_poly.proofs.table.randoms_of.Given as goal

-- the lines before the rest spell randoms, and those are kept as long as a table has room for them
abbrev pub invariant-loop-rest : goal.invariant-loop-rest
invariant-loop-rest l =
    (length l.randoms ≡ table_length) × (l.count + length l.rest ≤ length l.bytes)
    × (before : List (List ℕ)) × (lines l.bytes ≡ before ++ lines l.rest) × (l.count ≡ length before)
    × (spelled : List ℕ) × AllZip SpellsRandom before spelled × (l.count ≤ table_length → spelled ≡ take l.count l.randoms)

abbrev pub decreases-loop-rest : goal.decreases-loop-rest
decreases-loop-rest l = length l.rest
