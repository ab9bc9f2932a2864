use Rattle.std.proofs.Common.{rules}
use Rattle.pb_games.proofs.line.Line.id_bytes.Goals as goal

pub returns : goal.returns
returns c = search rules
