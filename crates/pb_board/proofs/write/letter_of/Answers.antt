use Rattle.std.proofs.Common.{arith, ap, sym, ◌-◌, ◌∙◌}
use Rattle.pb_board.specs.Piece.{piece_of}
use Rattle.pb_board.specs.Text.{piece_letter}
use Rattle.pb_board.proofs.Letters.{white_letter}
use Rattle.pb_board.proofs.write.letter_of.Goals as goal

pub overflow_sub-result : goal.overflow_sub-result
overflow_sub-result c = omega (arith, (white_letter c.args.piece.kind).0, c.letter-small.ensures)

pub returns-in-White : goal.returns-in-White
returns-in-White c =
    let kind = c.args.piece.kind in
    ap (λ n. n - 32) c.letter-small.ensures ∙ (white_letter kind).1 ∙ ap (λ side. piece_letter (piece_of side kind)) (sym c.in-White.is)
