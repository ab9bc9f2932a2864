use Rattle.pb_moves.proofs.Kept as same
use Rattle.pb_moves.proofs.laws.after_is_setup.Goals as goal

pub returns : goal.returns
returns c = λ s m ok legal. same.after_is_setup s m ok legal.moves
