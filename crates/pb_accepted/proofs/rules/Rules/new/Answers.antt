use Rattle.std.proofs.Common.{rules}
use Rattle.pb_accepted.proofs.rules.Rules.new.Goals as goal

pub invariant_of-result : goal.invariant_of-result
invariant_of-result c = search rules

pub returns-then-contains-2 : goal.returns-then-contains-2
returns-then-contains-2 c = search rules

pub returns-else-contains : goal.returns-else-contains
returns-else-contains c = search rules
