use Rattle.std.proofs.Common.{arith}
use Rattle.pb_cli.proofs.Matches.{rules_given}
use Rattle.pb_cli.proofs.order.rules.Goals as goal

pub returns : goal.returns
returns c = λ said right plies least.
    let most_plies = right.plies.1 in
    let most_least = right.least.1 in
    rw c.unwrap_or.ensures (rules_given c.new.result c.number.result c.number-2.result said _ c.new.ensures
    (c.number.ensures.0 said.plies (omega arith) plies) (c.number-2.ensures.0 said.least (omega arith) least) right)
