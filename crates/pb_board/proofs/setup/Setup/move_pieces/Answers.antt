use Rattle.std.proofs.Common.{ap, ◌∙◌}
use Rattle.pb_board.specs.Piece.{opponent}
use Rattle.pb_board.specs.Position.{Position}
use Rattle.pb_board.proofs.Backs.{keeps_setup, opened, setup_is}
use Rattle.pb_board.proofs.setup.Setup.move_pieces.Goals as goal

pub invariant_of-next : goal.invariant_of-next
invariant_of-next c =
    let own = opened _ _ _ _ _ c.next.invariant c.next.view_is in
    let turn = c.opponent-next-inside.ensures ∙ ap (λ (s : Position). opponent s.turn) c.next.view_is in
    rw turn (keeps_setup _ _ _ _ _ (c.move_pieces.ensures _ own.rules.places own.bitboards_are) c.requires.rules)

pub returns : goal.returns
returns c =
    let own = opened _ _ _ _ _ c.next.invariant c.next.view_is in
    let turn = c.opponent-next-inside.ensures ∙ ap (λ (s : Position). opponent s.turn) c.next.view_is in
    rw turn (setup_is _ _ _ _ _ c.requires.rules.places (c.move_pieces.ensures _ own.rules.places own.bitboards_are))
