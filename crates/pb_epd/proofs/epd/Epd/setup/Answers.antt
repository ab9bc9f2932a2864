use Rattle.std.proofs.Common.{rules}
use Rattle.pb_epd.proofs.epd.Epd.setup.Goals as goal

pub returns-clause-value : goal.returns-clause-value
returns-clause-value c = search rules

pub returns-clause-rules : goal.returns-clause-rules
returns-clause-rules c = search rules
