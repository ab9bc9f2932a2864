use Rattle.pb_accepted.proofs.Steps.{one_run, runs_join}
use Rattle.pb_accepted.proofs.laws.runs.Goals as goal

pub returns : goal.returns
returns c = record { one = one_run; join = runs_join }
