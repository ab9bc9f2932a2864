use Rattle.pb_commands.proofs.Checking.{refused_agrees, taken_agrees}
use Rattle.pb_commands.proofs.laws.check_agrees.Goals as goal

pub returns-clause-refused : goal.returns-clause-refused
returns-clause-refused c = refused_agrees

pub returns-clause-taken : goal.returns-clause-taken
returns-clause-taken c = taken_agrees
