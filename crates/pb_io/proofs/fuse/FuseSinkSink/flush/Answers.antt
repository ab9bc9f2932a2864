use Rattle.std.proofs.Common.{rules}
use Rattle.pb_io.proofs.fuse.FuseSinkSink.flush.Goals as goal

pub returns-then-self-2-clause-flush : goal.returns-then-self-2-clause-flush
returns-then-self-2-clause-flush c = search rules

pub returns-then-self-2-clause-fuse : goal.returns-then-self-2-clause-fuse
returns-then-self-2-clause-fuse c = search rules
