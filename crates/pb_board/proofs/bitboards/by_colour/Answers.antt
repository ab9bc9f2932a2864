use Rattle.std.proofs.Common.{sym, ◌∙◌}
use Rattle.pb_board.specs.Board.{at}
use Rattle.pb_board.proofs.BitboardBits.{colour_cast, side_bit, side_told}
use Rattle.pb_board.proofs.bitboards.by_colour.Goals as goal

pub returns : goal.returns
returns c = λ b q e.
    let bit = side_bit b q c.args.colour in
    let told = side_told (at b q) c.args.colour in
    rw (e, colour_cast c.args.colour) (λ one. told.0 (sym bit ∙ one), λ h. bit ∙ told.1 h)
