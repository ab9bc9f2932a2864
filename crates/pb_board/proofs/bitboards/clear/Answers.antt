use Rattle.pb_board.specs.Bitboards.{bitboards_of}
use Rattle.pb_board.proofs.BitboardBits.{bitboards_cleared}
use Rattle.pb_board.proofs.bitboards.clear.Goals as goal

pub returns : goal.returns
unfolding bitboards_of
returns c = λ b full e. rw e (bitboards_cleared b c.args.index full c.requires)
