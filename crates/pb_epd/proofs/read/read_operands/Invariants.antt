use Rattle.std.proofs.Common.{length}
use Rattle.pb_epd.specs.Lexeme.{token_of}
use Rattle.pb_epd.proofs.Reader.{InOperands}
use Rattle.pb_epd.proofs.read.read_operands.Given as goal

abbrev pub invariant-loop-token : goal.invariant-loop-token
invariant-loop-token l = InOperands (token_of l.fn.before) l.text l.operands.items (token_of l.before) l.rest

abbrev pub decreases-loop-token : goal.decreases-loop-token
decreases-loop-token l = length l.rest
