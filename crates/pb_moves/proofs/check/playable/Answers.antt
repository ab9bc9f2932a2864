use Rattle.std.proofs.Common.{◌↔◌, IsTrue, ap, ◌∙◌, subst}
use Rattle.pb_board.specs.declared.piece.Colour.{Colour}
use Rattle.pb_board.specs.Piece.{opponent}
use Rattle.pb_moves.specs.Attacks.{InCheck}
use Rattle.pb_moves.proofs.Lines.{untold}
use Rattle.pb_moves.proofs.check.playable.Goals as goal

pub returns : goal.returns
returns c =
    let s = c.args.setup.now in
    let C : Colour → Type 0 = λ side. IsTrue c.in_check.result ↔ InCheck s.board side in
    untold c.in_check.result (InCheck s.board (opponent s.turn)) (subst C (c.opponent.ensures ∙ ap opponent c.turn.ensures.value) c.in_check.ensures)
