use Rattle.pb_commands.proofs.ContinueHeadlines.{goes_on_as_one_run}
use Rattle.pb_commands.proofs.laws.goes_on.Goals as goal

pub returns : goal.returns
returns c = goes_on_as_one_run
