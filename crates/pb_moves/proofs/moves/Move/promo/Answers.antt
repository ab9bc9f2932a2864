use Rattle.std.proofs.Common.{rules}
use Rattle.pb_moves.proofs.moves.Move.promo.Goals as goal

pub returns : goal.returns
returns c = search rules
