use Rattle.std.proofs.Common.{rules}
use Rattle.pb_games.proofs.game.MoveList.as_slice.Goals as goal

pub returns : goal.returns
returns c = search rules
