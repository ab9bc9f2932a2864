use Rattle.std.proofs.Common.{rules}
use Rattle.pb_commands.proofs.store.LedgerBookText.write.Goals as goal

pub returns : goal.returns
returns g c = search rules
