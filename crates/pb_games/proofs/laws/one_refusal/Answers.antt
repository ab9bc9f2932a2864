use Rattle.pb_games.proofs.OneRefused as lemmas
use Rattle.pb_games.proofs.laws.one_refusal.Goals as goal

pub returns : goal.returns
returns c = lemmas.one_refusal
