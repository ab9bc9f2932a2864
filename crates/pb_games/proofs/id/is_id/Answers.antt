use Rattle.std.proofs.Common.{rules}
use Rattle.pb_games.proofs.id.is_id.Goals as goal

pub returns-then-bytes-le-MAX_LEN : goal.returns-then-bytes-le-MAX_LEN
returns-then-bytes-le-MAX_LEN c = search rules
