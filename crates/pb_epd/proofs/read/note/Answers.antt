use Rattle.std.proofs.Common.{◌+◌, arith}
use Rattle.pb_epd.specs.Operation.{Operation}
use Rattle.pb_epd.proofs.Groups.{standing_added, standing_repeated}
use Rattle.pb_epd.proofs.read.note.Goals as goal

pub returns-in-Ok-clause-stands : goal.returns-in-Ok-clause-stands
returns-in-Ok-clause-stands c =
    let x : Operation = (c.args.opcode.now, c.args.operands.items) in
    let old = c.args.so_far.now in λ operations counted standing.
    standing_added old.repeated operations old.epd.operations c.add.new.self.operations x standing c.in-Ok.ensures.puts.added c.in-Ok.ensures.puts.fresh

pub returns-in-Err-Repeated-clause-stands : goal.returns-in-Err-Repeated-clause-stands
returns-in-Err-Repeated-clause-stands c =
    let x : Operation = (c.args.opcode.now, c.args.operands.items) in
    let old = c.args.so_far.now in
    let due = rw c.in-Err-Repeated.field-0-is at c.in-Err-Repeated.ensures.puts.refused in
    let held = c.in-Err-Repeated.ensures.puts.same in
    rw (held, c.or-so_far.ensures) (λ operations counted standing.
    standing_repeated old.repeated operations old.epd.operations x (old.count + 1) standing (omega (arith, counted)) due.due.0 due.due.1)
