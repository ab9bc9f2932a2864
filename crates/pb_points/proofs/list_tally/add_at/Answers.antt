use Rattle.std.proofs.Common.{arith}
use Rattle.std.proofs.lemmas.Grind.{common_steps}
use Rattle.pb_points.proofs.list_tally.add_at.Goals as goal

pub returns-clause-row : goal.returns-clause-row
returns-clause-row c = grind (arith, common_steps)
