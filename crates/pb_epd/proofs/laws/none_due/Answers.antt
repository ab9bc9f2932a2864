use Rattle.pb_epd.proofs.Texts as texts
use Rattle.pb_epd.proofs.laws.none_due.Goals as goal

pub returns : goal.returns
returns c = λ e bytes x lawful h other refused. texts.text_not_due e bytes lawful h x other refused.due
