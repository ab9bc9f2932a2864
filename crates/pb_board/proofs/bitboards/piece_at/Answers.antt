use Rattle.std.proofs.Common.{◌∙◌}
use Rattle.pb_board.specs.Board.{at}
use Rattle.pb_board.proofs.Backs.{place_told}
use Rattle.pb_board.proofs.bitboards.piece_at.Goals as goal

pub returns : goal.returns
returns c = λ b e.
    let i = c.args.index in
    let occupied = c.occupied.ensures b i e in
    c.then_some.ensures ∙ place_told (at b i) c.has.result c.colour_at.result c.kind_at.result
    (λ h. occupied.0 (c.has.ensures.0 h), λ h. c.has.ensures.1 (occupied.1 h))
    (λ p here. c.colour_at.ensures b p e here) (λ p here. c.kind_at.ensures b p e here)
