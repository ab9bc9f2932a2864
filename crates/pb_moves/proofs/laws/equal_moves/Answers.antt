use Rattle.pb_board.proofs.Equal as board_equal
use Rattle.pb_moves.proofs.Equal as equal
use Rattle.pb_moves.proofs.laws.equal_moves.Goals as goal

pub returns : goal.returns
returns c = record { moves = equal.moves; effects = equal.effects; texts = board_equal.texts 5 }
