use Rattle.std.proofs.Common.{◌↔◌, sym, subst}
use Rattle.pb_board.specs.declared.piece.Kind.{Kind}
use Rattle.pb_moves.specs.Attackers.{In}
use Rattle.pb_moves.specs.Attacks.{Attacks}
use Rattle.pb_moves.specs.Candidate.{MayTarget}
use Rattle.pb_moves.proofs.Seen.{pawn_attack, points_of, takes_told}
use Rattle.pb_moves.proofs.Sets.{in_and, in_both}
use Rattle.pb_board.specs.declared.piece.Kind.TheVariants.{Pawn}
use Rattle.pb_moves.proofs.attack.pawn_takes.Goals as goal

pub returns : goal.returns
returns c = λ b.
    let from = c.args.from in
    let to = c.args.to in
    let side = c.args.pawn.colour in
    let on = c.has.ensures.on_board in
    let K : Kind → Type 0 = λ kind. In c.targets.result to ↔ MayTarget side kind from to in
    let R : Kind → Type 0 = λ kind. Attacks side kind b from to in
    let row = subst K c.requires (c.targets.ensures.squares to on) in
    let slant = c.pattern.ensures.squares to on in
    let takes = takes_told side from to in (
      λ h.
          let w = in_and _ _ to (c.has.ensures.inside.0 h) in
          subst R (sym c.requires) (pawn_attack side b from to (takes.0 (row.0 w.0, slant.0 w.1))),
      λ attacks.
          let w = takes.1 (points_of side Pawn b from to (subst R c.requires attacks)) in
          c.has.ensures.inside.1 (in_both _ _ to (row.1 w.0) (slant.1 w.1)),
    )
