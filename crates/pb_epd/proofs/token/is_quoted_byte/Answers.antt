use Rattle.std.proofs.Common.{rules}
use Rattle.pb_epd.proofs.token.is_quoted_byte.Goals as goal

pub returns-then-contains : goal.returns-then-contains
returns-then-contains c = search rules
