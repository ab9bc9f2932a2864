use Rattle.std.proofs.Common.{◌≡◌, ◌∙◌, ◌++◌, [], ◌∷◌, List, sym, ap}
use Rattle.std.proofs.lemmas.List.{append-nil}
use Rattle.pb_epd.specs.Operation.{Operation}
use Rattle.pb_epd.specs.Epd.{operations_of}
use Rattle.pb_epd.proofs.Maps.{Entry}
use Rattle.pb_epd.proofs.Writing.{operations_text, text_next}
use Rattle.pb_epd.proofs.write.put_operations.Goals as goal

pub loop-opcode-init : goal.loop-opcode-init
loop-opcode-init c =
    let all : c.into_iter-opcode-iterator.result ≡ c.operations-opcode-items.result.now.entries = c.into_iter-opcode-iterator.ensures.into_iter_gives.0 in
    ap (λ (es : List Entry). c.args.out.now.items ++ operations_text (operations_of es)) all ∙ ap (λ (ops : List Operation). c.args.out.now.items ++ operations_text ops) c.operations-opcode-items.ensures

pub loop-opcode-preserved : goal.loop-opcode-preserved
loop-opcode-preserved c =
    let step : c.loop-opcode.opcode-iterator ≡ (c.in-Some.opcode.now, c.in-Some.operands.now) ∷ c.next.new.self = c.in-Some.ensures.steps in
    let before = rw step at c.loop-opcode.invariant in
    text_next c.loop-opcode.out.items c.args.out.now.items c.put_operation.new.out.items (c.in-Some.opcode.now.items, c.in-Some.operands.now.items) (operations_of c.next.new.self) c.args.epd.now.operations before
    (rw (← c.as_slice.ensures.value, ← c.as_slice-in-loop-opcode.ensures.value) c.in_ok-put_operation.ensures)

pub returns : goal.returns
returns c =
    let done : c.loop-opcode.opcode-iterator ≡ [] = c.in-None.ensures.steps.0 in
    sym (append-nil c.loop-opcode.out.items) ∙ (rw done at c.loop-opcode.invariant)
