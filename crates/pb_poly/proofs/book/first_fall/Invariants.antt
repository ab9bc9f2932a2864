use Rattle.std.proofs.Common.{take}
use Rattle.pb_poly.specs.Ordered.{IsOrdered}
use Rattle.pb_poly.proofs.book.first_fall.Given as goal

-- the keys before this entry never fall, and the last of them is kept
abbrev pub invariant-loop-before : goal.invariant-loop-before
invariant-loop-before l = IsOrdered (take l.before l.entries) l.last
