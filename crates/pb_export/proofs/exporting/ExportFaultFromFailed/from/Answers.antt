use Rattle.std.proofs.Common.{rules}
use Rattle.pb_export.proofs.exporting.ExportFaultFromFailed.from.Goals as goal

pub returns : goal.returns
returns c = search rules
