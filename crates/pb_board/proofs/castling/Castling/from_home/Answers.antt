use Rattle.std.proofs.Common.{rules}
use Rattle.pb_board.proofs.castling.Castling.from_home.Goals as goal

pub returns-in-E8-H8 : goal.returns-in-E8-H8
returns-in-E8-H8 c = search rules
