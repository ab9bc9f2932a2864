use Rattle.std.proofs.Common.{◌≡◌, ◌++◌}
use Rattle.pb_epd.specs.Epd.{operations_of}
use Rattle.pb_epd.proofs.Writing.{operations_text}
use Rattle.pb_epd.proofs.write.put_operations.Given as goal

abbrev pub invariant-loop-opcode : goal.invariant-loop-opcode
invariant-loop-opcode l = l.out.items ++ operations_text (operations_of l.opcode-iterator) ≡ l.fn.out.items ++ operations_text l.epd.operations
