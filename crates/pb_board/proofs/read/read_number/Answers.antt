use Rattle.std.proofs.Common.{◌<◌, arith, get_or, length}
use Rattle.pb_board.proofs.Numbers.{is_no_number, begins_low, parsed_number, read_as}
use Rattle.pb_board.proofs.read.read_number.Goals.{else-text-gt1-via-then-text-gt1+else-text-lt49, else-text-gt1-via-else-text-gt1}
use Rattle.pb_board.proofs.read.read_number.Goals as goal

pub returns-then-text-lt49 : goal.returns-then-text-lt49
returns-then-text-lt49 c = λ n lt e. begins_low c.args.text.now n c.if-text-gt1.true c.if-text-lt49.true lt e

pub returns-in_err-ok : goal.returns-in_err-ok
returns-in_err-ok c = rw c.from_residual.ensures (is_no_number _ _ c.args.text.now c.from_utf8.result c.from_utf8.ensures.cases c.in_err-ok.ensures.value)

pub returns : goal.returns
returns c =
    let read = read_as _ _ c.from_utf8.result c.in_ok-ok.field-0 c.from_utf8.ensures.cases c.in_ok-ok.ensures.value in
    let plain : 1 < length c.args.text.now → 48 < get_or c.args.text.now 0 0 = λ long. elim c.else-text-gt1.branch [
      | else-text-gt1-via-then-text-gt1+else-text-lt49 w ↦ omega (arith, w.if-text-lt49.false)
      | else-text-gt1-via-else-text-gt1 w ↦ absurd (omega (arith, w.if-text-gt1.false, long))
    ] in
    rw c.ok-2.ensures.value (parsed_number c.args.text.now _ (rw read.0 at c.parse.ensures.value.0) plain)
