use Rattle.std.proofs.Common.{rules}
use Rattle.pb_accepted.proofs.rules.Rules.all_plies.Goals as goal

pub returns : goal.returns
returns c = search rules
