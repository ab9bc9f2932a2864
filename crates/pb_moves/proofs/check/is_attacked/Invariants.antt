use Rattle.std.proofs.Common.{◌-◌, w64}
use Rattle.std.specs.Int.{trailing_zeros}
use Rattle.pb_moves.proofs.Seen.{Left}
use Rattle.pb_moves.proofs.check.is_attacked.Given as goal

-- the pieces before the lowest of the rest don't look at the square
abbrev pub invariant-loop-rest : goal.invariant-loop-rest
invariant-loop-rest l = Left l.sight.occupied l.square l.initial.rest l.rest

abbrev pub decreases-loop-rest : goal.decreases-loop-rest
decreases-loop-rest l = 64 - trailing_zeros w64 l.rest
