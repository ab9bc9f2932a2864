use Rattle.pb_board.proofs.Equal as equal
use Rattle.pb_board.proofs.laws.equal_castlings.Goals as goal

pub returns : goal.returns
returns c = record { castlings = equal.castlings; squares = equal.castling_squares }
