use Rattle.std.proofs.Common.{rules}
use Rattle.pb_board.proofs.square.Square.from_index.Goals as goal

pub returns-then-index-lt64 : goal.returns-then-index-lt64
returns-then-index-lt64 c = search rules
