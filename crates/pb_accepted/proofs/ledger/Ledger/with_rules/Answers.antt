use Rattle.std.proofs.Common.{rules}
use Rattle.pb_accepted.proofs.ledger.Ledger.with_rules.Goals as goal

pub returns-clause-empty : goal.returns-clause-empty
returns-clause-empty g c = search rules
