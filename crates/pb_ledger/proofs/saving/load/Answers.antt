use Rattle.std.proofs.Common.{rules, refl}
use Rattle.std.proofs.lemmas.Result.{err_from_is_err_and}
use Rattle.pb_ledger.proofs.Loaded.{all_loaded, until}
use Rattle.pb_ledger.proofs.saving.load.Goals as goal

pub returns-in_err-take_lines : goal.returns-in_err-take_lines
returns-in_err-take_lines g c =
    let is = err_from_is_err_and c.from_residual.result c.from_residual.ensures.1 in
    let ends = until _ _ _ _ c.take_lines.new.task (refl, refl, c.requires) c.ranges.fills.fits c.in_err-take_lines.field-0.0 c.in_err-take_lines.ensures.err in
    rw (is.1, is.2) (record { ok = tt; fault = search rules; rest = search rules })

pub returns : goal.returns
returns g c =
    let ends = all_loaded _ _ _ _ c.take_lines.new.task (refl, refl, c.requires) c.ranges.fills.fits c.in_ok-take_lines.ensures.ok in
    record { ok = search rules; fault = tt; rest = search rules }
