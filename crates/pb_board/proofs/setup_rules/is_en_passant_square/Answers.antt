use Rattle.std.proofs.Common.{rules}
use Rattle.pb_board.proofs.setup_rules.is_en_passant_square.Goals as goal

pub returns-then-is_none : goal.returns-then-is_none
returns-then-is_none c = search rules
