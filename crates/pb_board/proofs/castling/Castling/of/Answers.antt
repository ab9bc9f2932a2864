use Rattle.std.proofs.Common.{rules}
use Rattle.pb_board.proofs.castling.Castling.of.Goals as goal

pub returns-in-E8-C8 : goal.returns-in-E8-C8
returns-in-E8-C8 c = search rules
