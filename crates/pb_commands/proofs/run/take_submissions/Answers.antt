use Rattle.std.proofs.Common.{refl}
use Rattle.pb_commands.proofs.Taking.{takes_so}
use Rattle.pb_commands.proofs.run.take_submissions.Goals as goal

pub returns : goal.returns
returns g c = takes_so _ _ _ _ _ _ refl c.collect_journaled-end.result c.collect_journaled-end.ensures.ok c.collect_journaled-end.ensures.fault
