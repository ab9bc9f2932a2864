use Rattle.std.proofs.Common.{refl, inl, inr, sym, ◌∙◌}
use Rattle.std.proofs.lemmas.Bool.{false≢true}
use Rattle.pb_moves.proofs.attack.line_kind.Goals as goal

pub returns-then-has : goal.returns-then-has
returns-then-has c = inl (refl, (c.pattern.ensures.squares c.args.b c.has.ensures.on_board).0 (c.has.ensures.inside.0 c.if-has.true))

pub returns-else-has : goal.returns-else-has
returns-else-has c = inr (refl, λ straight. false≢true (sym c.if-has.false ∙ c.has.ensures.inside.1 ((c.pattern.ensures.squares c.args.b c.has.ensures.on_board).1 straight)))
