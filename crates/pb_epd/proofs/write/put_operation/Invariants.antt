use Rattle.std.proofs.Common.{◌≡◌, ◌∷◌, [], ◌++◌, take}
use Rattle.std.specs.Prelude.{flat_map}
use Rattle.pb_epd.proofs.Writing.{spaced}
use Rattle.pb_epd.proofs.write.put_operation.Given as goal

abbrev pub invariant-loop-operand : goal.invariant-loop-operand
invariant-loop-operand l = l.out.items ≡ ((l.fn.out.items ++ 32 ∷ []) ++ l.opcode) ++ flat_map spaced (take l.operand-index l.operands)
