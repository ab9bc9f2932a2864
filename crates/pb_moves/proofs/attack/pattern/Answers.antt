use Rattle.std.proofs.Common.{inl, inr}
use Rattle.pb_moves.proofs.attack.pattern.Goals as goal

pub returns-clause-squares : goal.returns-clause-squares
returns-clause-squares c = λ to on.
    let tells = c.targets.ensures.squares to on in (
      λ h. elim (tells.0 h) [ inl points ↦ points.0 | inr steps ↦ absurd (c.requires steps.0) ],
      λ h. tells.1 (inl (h, λ pawn. absurd (c.requires pawn))),
    )
