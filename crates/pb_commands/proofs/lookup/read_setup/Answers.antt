use Rattle.std.proofs.Common.{Err, Ok, ap}
use Rattle.pb_commands.proofs.lookup.read_setup.Goals as goal

pub returns-in-Ok : goal.returns-in-Ok
returns-in-Ok c = (Ok c.in-Ok.record, c.in-Ok.ensures.found, ap (λ s. Ok s) c.setup.ensures.value)

pub returns-in_ok-read_epd-in-Err : goal.returns-in_ok-read_epd-in-Err
returns-in_ok-read_epd-in-Err c =
    (Err c.in-Err.field-0, c.in-Err.ensures.refused, (Ok c.in_ok-read_epd-in-Err.field-0, c.in_ok-read_epd-in-Err.ensures.found, ap (λ s. Ok s) c.setup-in-Err-2.ensures.value))
