use Rattle.std.proofs.Common.{rules}
use Rattle.pb_io.proofs.fuse.FuseSink.as_bytes.Goals as goal

pub returns : goal.returns
returns c = search rules
