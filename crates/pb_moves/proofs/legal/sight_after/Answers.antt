use Rattle.std.proofs.Common.{ap, subst, ◌∙◌}
use Rattle.pb_board.specs.declared.piece.Colour.{Colour}
use Rattle.pb_board.specs.Piece.{opponent}
use Rattle.pb_moves.specs.Attackers.{IsSight}
use Rattle.pb_moves.proofs.Changing.{follows, sees_first, sees_second}
use Rattle.pb_moves.proofs.legal.sight_after.Goals as goal

pub returns-in-Some : goal.returns-in-Some
returns-in-Some c =
    let s = c.args.setup.now in
    let (m, own, fits) = c.requires in
    let first = c.args.first in
    let second = c.in-Some.second in
    let seen = c.sight_of-sight.result in
    let one = c.after-between.result in
    let E : Colour → Type 0 = λ x. IsSight s.board s.board x seen in
    let sees = sees_first s m own.0 first c.args.second seen one c.turn.ensures.rules own.1 fits
    (subst E (c.opponent.ensures ∙ ap opponent c.turn.ensures.value) c.sight_of-sight.ensures) (follows s seen first.from first.to one c.after-between.ensures) in
    rw c.in-Some.is (sees_second s m first second one c.after.result c.turn.ensures.rules (rw c.in-Some.is at fits) sees
    (follows s one second.from second.to c.after.result c.after.ensures))

pub returns-in-None : goal.returns-in-None
returns-in-None c =
    let s = c.args.setup.now in
    let (m, own, fits) = c.requires in
    let first = c.args.first in
    let seen = c.sight_of-sight.result in
    let one = c.after-between.result in
    let E : Colour → Type 0 = λ x. IsSight s.board s.board x seen in
    rw c.in-None.is (sees_first s m own.0 first c.args.second seen one c.turn.ensures.rules own.1 fits
    (subst E (c.opponent.ensures ∙ ap opponent c.turn.ensures.value) c.sight_of-sight.ensures) (follows s seen first.from first.to one c.after-between.ensures))
