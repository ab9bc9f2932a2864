use Rattle.std.proofs.Common.{rules}
use Rattle.pb_board.proofs.write.write_fen.Goals as goal

pub returns : goal.returns
returns c = search rules
