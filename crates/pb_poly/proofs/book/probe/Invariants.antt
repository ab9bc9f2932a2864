use Rattle.std.proofs.Common.{take}
use Rattle.pb_poly.specs.Found.{Found}
use Rattle.pb_poly.proofs.book.probe.Given as goal

-- the entries before this one have been looked through
abbrev pub invariant-loop-entry : goal.invariant-loop-entry
invariant-loop-entry l = Found (take l.entry-index l.entry-items) l.table l.setup l.found.items
