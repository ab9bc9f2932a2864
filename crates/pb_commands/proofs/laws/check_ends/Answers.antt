use Rattle.pb_io.proofs.EndLemmas.{known_of}
use Rattle.pb_commands.proofs.Checking.{at_first}
use Rattle.pb_commands.proofs.laws.check_ends.Goals as goal

pub returns-clause-told : goal.returns-clause-told
returns-clause-told c fills s s' k k' answer ends = known_of fills s s' _ ends.0

pub returns-clause-memory : goal.returns-clause-memory
returns-clause-memory c = at_first
