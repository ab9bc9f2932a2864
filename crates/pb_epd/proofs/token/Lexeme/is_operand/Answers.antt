use Rattle.std.proofs.Common.{rules}
use Rattle.pb_epd.proofs.token.Lexeme.is_operand.Goals as goal

pub returns : goal.returns
returns c = search rules
