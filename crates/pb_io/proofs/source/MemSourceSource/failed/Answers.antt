use Rattle.std.proofs.Common.{rules}
use Rattle.pb_io.proofs.source.MemSourceSource.failed.Goals as goal

pub returns : goal.returns
returns c = search rules
