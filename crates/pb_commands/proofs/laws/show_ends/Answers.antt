use Rattle.pb_commands.proofs.Showing.{shows_only}
use Rattle.pb_commands.proofs.Told.{told_shown}
use Rattle.pb_commands.proofs.laws.show_ends.Goals as goal

pub returns-clause-told : goal.returns-clause-told
returns-clause-told c = told_shown

pub returns-clause-only : goal.returns-clause-only
returns-clause-only c = shows_only
