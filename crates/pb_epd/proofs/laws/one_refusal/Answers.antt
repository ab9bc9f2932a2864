use Rattle.pb_epd.proofs.OneRefused as refused
use Rattle.pb_epd.proofs.laws.one_refusal.Goals as goal

pub returns : goal.returns
returns c = record { text = refused.one_refusal; operation = refused.one_put_refusal }
