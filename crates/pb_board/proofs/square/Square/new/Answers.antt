use Rattle.std.proofs.Common.{rules}
use Rattle.pb_board.proofs.square.Square.new.Goals as goal

pub returns-then-rank-lt8 : goal.returns-then-rank-lt8
returns-then-rank-lt8 c = search rules
