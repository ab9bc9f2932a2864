use Rattle.std.proofs.Common.{rules}
use Rattle.pb_poly.proofs.table.Table.randoms.Goals as goal

pub returns-clause-value : goal.returns-clause-value
returns-clause-value c = search rules
