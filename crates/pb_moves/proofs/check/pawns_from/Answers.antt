use Rattle.std.proofs.Common.{◌↔◌, subst}
use Rattle.pb_board.specs.declared.piece.Colour.{Colour}
use Rattle.pb_board.specs.declared.piece.Kind.TheVariants.{Pawn}
use Rattle.pb_moves.specs.Attackers.{In}
use Rattle.pb_moves.specs.Candidate.{MayTarget}
use Rattle.pb_moves.proofs.Aiming.{pawn_back}
use Rattle.pb_moves.proofs.Sets.{in_and, in_both}
use Rattle.pb_moves.proofs.check.pawns_from.Goals as goal

pub returns : goal.returns
returns c = λ a on.
    let square = c.args.square in
    let C : Colour → Type 0 = λ side. In c.targets.result a ↔ MayTarget side Pawn square a in
    let row = subst C c.opponent.ensures (c.targets.ensures.squares a on) in
    let slant = c.pattern.ensures.squares a on in
    let told = pawn_back c.args.colour square a in (
      λ h. (let w = in_and _ _ a h in told.0 (row.0 w.0, slant.0 w.1)),
      λ points. (let w = told.1 points in in_both _ _ a (row.1 w.0) (slant.1 w.1)),
    )
