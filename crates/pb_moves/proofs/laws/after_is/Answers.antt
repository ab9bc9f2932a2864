use Rattle.pb_moves.proofs.Kept as same
use Rattle.pb_moves.proofs.laws.after_is.Goals as goal

pub returns : goal.returns
returns c = λ s t m ok legal. same.after_is s t m ok legal
