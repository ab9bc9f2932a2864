use Rattle.std.proofs.Common.{rules}
use Rattle.pb_accepted.proofs.ledger.Ledger.len.Goals as goal

pub returns-clause-value : goal.returns-clause-value
returns-clause-value g c = search rules
