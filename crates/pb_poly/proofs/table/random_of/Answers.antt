use Rattle.pb_poly.proofs.Digits.{unwritten, written}
use Rattle.pb_poly.proofs.table.random_of.Goals as goal

pub returns-in-Ok : goal.returns-in-Ok
returns-in-Ok c =
    written _ c.decode_to_slice.new.out c.from_be_bytes.result (rw (← c.without_return.ensures) c.in-Ok.ensures.value) c.from_be_bytes.ensures

pub returns-in-Err : goal.returns-in-Err
returns-in-Err c = λ s. unwritten _ c.in-Err.field-0 c.decode_to_slice.new.out (rw (← c.without_return.ensures) c.in-Err.ensures.value) s.0 s.1
