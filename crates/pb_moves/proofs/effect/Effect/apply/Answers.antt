use Rattle.pb_moves.proofs.Effects.{made_is_setup}
use Rattle.pb_moves.proofs.effect.Effect.apply.Goals as goal

pub move_pieces-requires : goal.move_pieces-requires
move_pieces-requires c = record { rules = made_is_setup c.args.setup.now c.requires.0 c.args.self c.requires.1.rules c.requires.1 }
