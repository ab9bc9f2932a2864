use Rattle.std.proofs.Common.{rules}
use Rattle.pb_moves.proofs.moves.Move.from.Goals as goal

pub returns-clause-value : goal.returns-clause-value
returns-clause-value c = search rules
