use Rattle.pb_epd.proofs.Forms as forms
use Rattle.pb_epd.proofs.laws.one_record.Goals as goal

pub returns : goal.returns
returns c = forms.record_is_one
