use Rattle.pb_moves.proofs.Effects.{effect_leads}
use Rattle.pb_moves.proofs.effect.legal_effect.Goals as goal

pub is_safe-requires-clause-leads : goal.is_safe-requires-clause-leads
is_safe-requires-clause-leads c = effect_leads c.args.setup.now c.args.m c.in_ok-effect.effect c.in_ok-effect.ensures
