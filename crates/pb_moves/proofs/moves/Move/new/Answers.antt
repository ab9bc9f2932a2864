use Rattle.std.proofs.Common.{rules}
use Rattle.pb_moves.proofs.moves.Move.new.Goals as goal

pub returns-else-matches-clause-made : goal.returns-else-matches-clause-made
returns-else-matches-clause-made c = search rules
