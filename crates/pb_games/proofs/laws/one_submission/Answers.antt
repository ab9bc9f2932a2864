use Rattle.pb_games.proofs.OneLine as lemmas
use Rattle.pb_games.proofs.laws.one_submission.Goals as goal

pub returns : goal.returns
returns c = lemmas.one_submission
