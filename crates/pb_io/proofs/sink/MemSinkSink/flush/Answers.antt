use Rattle.std.proofs.Common.{rules}
use Rattle.pb_io.proofs.sink.MemSinkSink.flush.Goals as goal

pub returns-then-self-clause-fails : goal.returns-then-self-clause-fails
returns-then-self-clause-fails c = search rules
