use Rattle.std.proofs.Common.{arith}
use Rattle.std.proofs.lemmas.Grind.{common_steps}
use Rattle.pb_games.proofs.game.read_outcome.Goals as goal

pub returns-in-48 : goal.returns-in-48
returns-in-48 c = grind (arith, common_steps)
