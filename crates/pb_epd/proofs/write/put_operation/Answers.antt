use Rattle.std.proofs.Common.{◌∙◌, ◌++◌, ◌∷◌, [], ap}
use Rattle.std.proofs.lemmas.List.{take_all}
use Rattle.pb_epd.proofs.Writing.{operation_put}
use Rattle.pb_epd.proofs.write.put_operation.Goals as goal

pub returns : goal.returns
returns c =
    c.in_ok-push-3.ensures.items ∙ ap (λ w. w ++ 59 ∷ []) (rw (take_all c.loop-operand.operand-index c.args.operands.now c.loop-operand-test.false) at c.loop-operand.invariant)
    ∙ operation_put c.args.out.now.items c.args.opcode.now c.args.operands.now
