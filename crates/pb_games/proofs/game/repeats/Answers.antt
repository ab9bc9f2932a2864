use Rattle.std.proofs.Common.{rules}
use Rattle.pb_games.proofs.game.repeats.Goals as goal

pub returns-then-is_text_of : goal.returns-then-is_text_of
returns-then-is_text_of c = search rules
