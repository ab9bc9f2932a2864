use Rattle.std.proofs.Common.{rules}
use Rattle.pb_board.proofs.text.Text.as_bytes.Goals as goal

pub returns-clause-value : goal.returns-clause-value
returns-clause-value c = search rules
