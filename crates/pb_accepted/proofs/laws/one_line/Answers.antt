use Rattle.pb_accepted.proofs.Steps.{held_step, named_step, one_step, refusal_step}
use Rattle.pb_accepted.proofs.laws.one_line.Goals as goal

pub returns : goal.returns
returns c = record { one = one_step; held = held_step; refused = refusal_step; named = named_step }
