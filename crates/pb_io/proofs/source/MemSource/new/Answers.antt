use Rattle.std.proofs.Common.{rules}
use Rattle.pb_io.proofs.source.MemSource.new.Goals as goal

pub returns : goal.returns
returns c = search rules
