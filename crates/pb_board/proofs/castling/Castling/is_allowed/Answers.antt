use Rattle.std.proofs.Common.{rules}
use Rattle.pb_board.proofs.castling.Castling.is_allowed.Goals as goal

pub returns-in-WhiteLong : goal.returns-in-WhiteLong
returns-in-WhiteLong c = search rules
