use Rattle.pb_board.proofs.Equal as equal
use Rattle.pb_board.proofs.laws.equal_setups.Goals as goal

pub returns : goal.returns
returns c = record { setups = equal.positions; rights = equal.rights }
