use Rattle.pb_board.proofs.BitboardBits.{colour_cast, kind_cast, standing_bit}
use Rattle.pb_board.proofs.bitboards.by_piece.Goals as goal

pub returns : goal.returns
returns c = λ b q e. standing_bit c.args.bitboards.now b q _ _ c.args.piece (colour_cast _) (kind_cast _) e
