use Rattle.std.proofs.Common.{rules}
use Rattle.pb_epd.proofs.operation.OperandBytes.of.Goals as goal

pub returns : goal.returns
returns c = search rules
