use Rattle.std.proofs.Common.{◌+◌, ◌*◌, ◌-◌, w64}
use Rattle.std.specs.Int.{trailing_zeros}
use Rattle.pb_moves.specs.Candidate.{ListsBelow}
use Rattle.pb_moves.proofs.Listed.{HasTargets}
use Rattle.pb_moves.proofs.listing.Lister.push_from.Given as goal

-- the moves to the squares before the lowest of the rest are listed
abbrev pub invariant-loop-rest : goal.invariant-loop-rest
invariant-loop-rest l = record {
  before : ListsBelow l.self.setup.now l.moves.items (320 * l.mover.from + 5 * trailing_zeros w64 l.rest);
  targets : HasTargets l.self.setup.now l.mover.piece l.mover.from (trailing_zeros w64 l.rest) l.rest;
}

abbrev pub decreases-loop-rest : goal.decreases-loop-rest
decreases-loop-rest l = 64 - trailing_zeros w64 l.rest
