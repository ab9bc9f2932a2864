use Rattle.pb_commands.proofs.LookupClauses.{told_looked_up}
use Rattle.pb_commands.proofs.laws.lookup_ends.Goals as goal

pub returns : goal.returns
returns c fills t t' b b' s s' k k' result table book bytes told_t told_b told_s = told_looked_up fills t t' b b' s s' k k' table book bytes told_t told_b told_s result
