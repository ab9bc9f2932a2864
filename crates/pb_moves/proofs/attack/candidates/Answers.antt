use Rattle.std.proofs.Common.{◌≡◌, inl, inr, rules}
use Rattle.pb_board.specs.declared.piece.Kind.TheVariants.{King}
use Rattle.pb_moves.proofs.Sets.{in_first, in_or, in_second}
use Rattle.pb_moves.proofs.attack.candidates.Goals as goal

pub returns-then-eq : goal.returns-then-eq
returns-then-eq c = λ to on.
    let king : c.args.piece.kind ≡ King = search rules in
    let near = c.targets-squares.ensures.squares to on in
    let aside = c.two_aside.ensures to on in (
      λ h. elim (in_or _ _ to h) [ inl x ↦ inl (near.0 x) | inr x ↦ inr (king, (aside.0 x).0, (aside.0 x).1) ],
      λ goes. elim goes [ inl x ↦ in_first _ _ to (near.1 x) | inr x ↦ in_second _ _ to (aside.1 (x.1, x.2)) ],
    )
