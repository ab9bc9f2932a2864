use Rattle.std.proofs.Common.{arith}
use Rattle.std.proofs.lemmas.Grind.{common_steps}
use Rattle.pb_board.proofs.read.read_en_passant.Goals as goal

pub returns-in-97-to-104 : goal.returns-in-97-to-104
returns-in-97-to-104 c = grind (arith, common_steps)
