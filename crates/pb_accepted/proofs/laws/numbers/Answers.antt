use Rattle.pb_accepted.proofs.Steps.{runs_number}
use Rattle.pb_accepted.proofs.laws.numbers.Goals as goal

pub returns : goal.returns
returns c = runs_number
