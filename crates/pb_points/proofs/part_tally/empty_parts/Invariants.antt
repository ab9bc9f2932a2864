use Rattle.std.proofs.Common.{◌≡◌, length}
use Rattle.std.specs.Prelude.{vec_capacity}
use Rattle.pb_points.specs.PartTally.{HoldNothing}
use Rattle.pb_points.proofs.part_tally.empty_parts.Given as goal

abbrev pub invariant-loop : goal.invariant-loop
invariant-loop g l = record { count : length l.parts.items ≡ l.counter; room : vec_capacity l.parts ≡ 256; nothing : HoldNothing g.T.Tally.content l.parts.items }
