use Rattle.std.proofs.Common.{rules}
use Rattle.pb_epd.proofs.operation.OperandBytes.as_bytes.Goals as goal

pub returns : goal.returns
returns c = search rules
