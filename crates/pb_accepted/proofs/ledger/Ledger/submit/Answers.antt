use Rattle.std.proofs.lemmas.Result.{err_from_is_err_and}
use Rattle.pb_accepted.proofs.ledger.Ledger.submit.Goals as goal

pub returns-in_err-submit_full-clause-step : goal.returns-in_err-submit_full-clause-step
returns-in_err-submit_full-clause-step g c =
    let e = err_from_is_err_and c.from_residual.result c.from_residual.ensures.1 in
    rw (e.1, e.2) c.in_err-submit_full.ensures.step
