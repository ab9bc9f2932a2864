use Rattle.std.proofs.Common.{rules}
use Rattle.pb_commands.proofs.stop.status.Goals as goal

pub returns-in-Err : goal.returns-in-Err
returns-in-Err c = search rules
