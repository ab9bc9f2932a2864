use Rattle.pb_accepted.proofs.Distinct.{Taken-unique, no_repeats}
use Rattle.pb_accepted.proofs.laws.distinct.Goals as goal

pub returns : goal.returns
returns c = record { one = Taken-unique; no_repeats = no_repeats }
