use Rattle.std.proofs.Common.{rules}
use Rattle.pb_io.proofs.fuse.FuseSinkSink.put.Goals as goal

pub returns-else-self-2-clause-put : goal.returns-else-self-2-clause-put
returns-else-self-2-clause-put c = search rules

pub returns-else-self-2-clause-fuse : goal.returns-else-self-2-clause-fuse
returns-else-self-2-clause-fuse c = search rules
