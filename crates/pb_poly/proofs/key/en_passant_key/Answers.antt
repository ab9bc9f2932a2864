use Rattle.std.proofs.Common.{rules}
use Rattle.pb_poly.proofs.key.en_passant_key.Goals as goal

pub returns-in-Some-clause-value : goal.returns-in-Some-clause-value
returns-in-Some-clause-value c = search rules
