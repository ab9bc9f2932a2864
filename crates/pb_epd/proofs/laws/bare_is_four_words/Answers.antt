use Rattle.pb_epd.proofs.Texts as texts
use Rattle.pb_epd.proofs.laws.bare_is_four_words.Goals as goal

pub returns : goal.returns
returns c = texts.bare_is_four_words
