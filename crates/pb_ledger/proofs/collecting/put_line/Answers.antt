use Rattle.std.proofs.Common.{rules}
use Rattle.pb_ledger.proofs.collecting.put_line.Goals as goal

pub returns : goal.returns
returns g c = search rules
