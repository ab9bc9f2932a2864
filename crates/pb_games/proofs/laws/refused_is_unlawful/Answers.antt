use Rattle.pb_games.proofs.Refused as lemmas
use Rattle.pb_games.proofs.laws.refused_is_unlawful.Goals as goal

pub returns : goal.returns
returns c = lemmas.unlawful
