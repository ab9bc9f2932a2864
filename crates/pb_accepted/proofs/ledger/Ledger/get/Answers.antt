use Rattle.std.proofs.Common.{rules}
use Rattle.pb_accepted.proofs.ledger.Ledger.get.Goals as goal

pub returns : goal.returns
returns g c = search rules
