use Rattle.pb_poly.proofs.Codes as codes
use Rattle.pb_poly.proofs.laws.code_is_one.Goals as goal

pub returns : goal.returns
returns c = codes.code_is_one
