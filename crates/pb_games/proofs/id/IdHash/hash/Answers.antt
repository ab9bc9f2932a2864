use Rattle.std.proofs.Common.{rules}
use Rattle.pb_games.proofs.id.IdHash.hash.Goals as goal

pub returns : goal.returns
returns g c = search rules
