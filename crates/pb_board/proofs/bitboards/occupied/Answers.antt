use Rattle.pb_board.proofs.BitboardBits.{occupied_bit}
use Rattle.pb_board.proofs.bitboards.occupied.Goals as goal

pub returns : goal.returns
returns c = λ b q e. occupied_bit c.args.bitboards.now b q e
