use Rattle.pb_poly.proofs.Finding as finding
use Rattle.pb_poly.proofs.laws.found_is_one.Goals as goal

pub returns : goal.returns
returns c = finding.found_is_one
