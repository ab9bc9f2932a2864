use Rattle.std.proofs.Common.{sym, ◌∙◌}
use Rattle.std.proofs.lemmas.Bool.{false≢true}
use Rattle.pb_moves.proofs.state_after.rights_after.Goals as goal

pub returns-else-touches_home : goal.returns-else-touches_home
returns-else-touches_home c =
    sym (c.touches_home.ensures (λ h. absurd (false≢true (sym c.if-touches_home.false ∙ h))) c.args.rights)
