use Rattle.std.proofs.Common.{rules}
use Rattle.pb_games.proofs.line.Line.moves.Goals as goal

pub returns : goal.returns
returns c = search rules
