use Rattle.std.proofs.Common.{length}
use Rattle.pb_poly.specs.Ordered.{IsOrdered}
use Rattle.pb_poly.proofs.Feeds.{IsTaken}
use Rattle.pb_poly.proofs.reading.take_entries.Given as goal

abbrev pub invariant-loop-front : goal.invariant-loop-front
invariant-loop-front l = record { taken : IsTaken l.initial.entries.items l.bytes l.rest l.entries.items; ordered : IsOrdered l.entries.items l.last_key }

abbrev pub decreases-loop-front : goal.decreases-loop-front
decreases-loop-front l = length l.rest
