use Rattle.std.proofs.Common.{rules}
use Rattle.pb_games.proofs.line.Line.start.Goals as goal

pub returns-clause-value : goal.returns-clause-value
returns-clause-value c = search rules
