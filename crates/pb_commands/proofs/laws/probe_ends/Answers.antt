use Rattle.pb_commands.proofs.Probing.{probes_only, told_probed}
use Rattle.pb_commands.proofs.laws.probe_ends.Goals as goal

pub returns-clause-told : goal.returns-clause-told
returns-clause-told c = told_probed

pub returns-clause-only : goal.returns-clause-only
returns-clause-only c = probes_only
