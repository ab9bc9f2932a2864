use Rattle.std.proofs.Common.{rules}
use Rattle.pb_poly.proofs.code.move_of.Goals as goal

pub returns-then-is_legal : goal.returns-then-is_legal
returns-then-is_legal c = search rules
