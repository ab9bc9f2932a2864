use Rattle.std.proofs.Common.{refl}
use Rattle.pb_commands.proofs.ExportClauses.{export_run}
use Rattle.pb_commands.proofs.export.export_submissions.Goals as goal

pub returns : goal.returns
returns g c =
    let opened = c.in_ok-ledger.ensures in
    export_run _ _ _ _ _ _ _ opened.1 _ (c.in_ok-ledger.ledger, opened.0, _, refl, c.take_submissions-taken.ensures) c.export_taken.result c.map_err.result c.export_taken.ensures c.map_err.ensures.cases
