use Rattle.std.proofs.Common.{◌∙◌, inr}
use Rattle.std.proofs.lemmas.Result.{err_from_is_err_and}
use Rattle.pb_commands.specs.declared.stop.Refused.TheVariants.{Ledger}
use Rattle.pb_commands.proofs.Taking.{found_so, stops_told}
use Rattle.pb_commands.proofs.continuing.load_first.Goals as goal

pub returns-in_err-accept : goal.returns-in_err-accept
returns-in_err-accept g c =
    let p = err_from_is_err_and c.from_residual-in_err-accept.result c.from_residual-in_err-accept.ensures.1 in
    let opened = c.in_ok-ledger.ensures in
    let h = stops_told Ledger c.load-loaded.result c.map_err.result _ _ _ opened.1 c.in_err-accept.field-0.0 c.map_err.ensures.cases c.in_err-accept.ensures in
    rw (p.1, p.2) (inr (c.in_ok-ledger.ledger, c.load-loaded.new.ledger, opened.0, h.0, rw h.1 at c.load-loaded.ensures.fault, h.2))

pub returns : goal.returns
returns g c =
    let opened = c.in_ok-ledger.ensures in
    let loaded = c.load-loaded.ensures in
    let found = found_so Ledger c.load-loaded.result c.map_err.result _ c.map_err.ensures.cases c.in_ok-accept.ensures.0 in
    let all = rw found at loaded.ok in
    ((c.in_ok-ledger.ledger, opened.0, all.0, loaded.rest), c.in_ok-accept.ensures.1 ∙ opened.1)
