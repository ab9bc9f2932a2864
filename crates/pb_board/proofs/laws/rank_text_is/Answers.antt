use Rattle.pb_board.proofs.Spelled as spelled
use Rattle.pb_board.proofs.laws.rank_text_is.Goals as goal

pub returns : goal.returns
returns c = spelled.rank_text_is
