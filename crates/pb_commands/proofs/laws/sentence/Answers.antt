use Rattle.pb_commands.proofs.Sentences.{holds_of_runs}
use Rattle.pb_commands.proofs.laws.sentence.Goals as goal

pub returns : goal.returns
returns c = holds_of_runs
