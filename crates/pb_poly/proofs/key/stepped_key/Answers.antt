use Rattle.std.proofs.Common.{rules}
use Rattle.pb_poly.proofs.key.stepped_key.Goals as goal

pub returns : goal.returns
returns c = search rules
