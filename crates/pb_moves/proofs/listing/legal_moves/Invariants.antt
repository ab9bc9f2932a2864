use Rattle.std.proofs.Common.{◌*◌}
use Rattle.pb_moves.specs.Candidate.{ListsBelow}
use Rattle.pb_moves.proofs.listing.legal_moves.Given as goal

abbrev pub invariant-loop-index : goal.invariant-loop-index
invariant-loop-index l = ListsBelow l.setup l.moves.items (320 * l.index)
