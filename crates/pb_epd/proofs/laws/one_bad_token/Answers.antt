use Rattle.pb_epd.proofs.Bad as bad
use Rattle.pb_epd.proofs.laws.one_bad_token.Goals as goal

pub returns : goal.returns
returns c = bad.bad_one
