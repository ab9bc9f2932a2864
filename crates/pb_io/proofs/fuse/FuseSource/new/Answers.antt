use Rattle.std.proofs.Common.{rules}
use Rattle.pb_io.proofs.fuse.FuseSource.new.Goals as goal

pub returns-clause-state : goal.returns-clause-state
returns-clause-state c = search rules
