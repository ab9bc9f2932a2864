use Rattle.std.proofs.Common.{rules}
use Rattle.pb_board.proofs.castling.Castling.colour.Goals as goal

pub returns-in-BlackShort : goal.returns-in-BlackShort
returns-in-BlackShort c = search rules
