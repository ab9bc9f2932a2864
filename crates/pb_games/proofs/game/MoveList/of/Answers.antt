use Rattle.std.proofs.Common.{rules}
use Rattle.pb_games.proofs.game.MoveList.of.Goals as goal

pub returns : goal.returns
returns c = search rules
