use Rattle.pb_poly.proofs.Parity as parity
use Rattle.pb_poly.proofs.laws.key_is_one.Goals as goal

pub returns : goal.returns
returns c = record { is = parity.key_is_parity; only = parity.key_is_one }
