use Rattle.std.proofs.Common.{sym, ◌∙◌}
use Rattle.pb_board.specs.Board.{at}
use Rattle.pb_board.proofs.BitboardBits.{kind_bit, kind_cast, kind_told}
use Rattle.pb_board.proofs.bitboards.by_kind.Goals as goal

pub returns : goal.returns
returns c = λ b q e.
    let bit = kind_bit b q c.args.kind in
    let told = kind_told (at b q) c.args.kind in
    rw (e, kind_cast c.args.kind) (λ one. told.0 (sym bit ∙ one), λ h. bit ∙ told.1 h)
