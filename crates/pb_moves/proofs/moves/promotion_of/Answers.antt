use Rattle.std.proofs.Common.{rules}
use Rattle.pb_moves.proofs.moves.promotion_of.Goals as goal

pub returns-in-4 : goal.returns-in-4
returns-in-4 c = search rules
