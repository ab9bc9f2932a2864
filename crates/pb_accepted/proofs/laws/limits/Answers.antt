use Rattle.std.proofs.Common.{rules}
use Rattle.pb_accepted.proofs.laws.limits.Goals as goal

pub returns : goal.returns
returns c = search rules
