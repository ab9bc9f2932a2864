-- How a run of `export` ends.
use Rattle.std.specs.Prelude.{◌≡◌, ◌⊎◌, ℕ, IsOk, Result, Ok, Err, true, false}
use Rattle.pb_io.specs.Sink.{SinkState}
use Rattle.pb_io.specs.Source.{SourceState}
use Rattle.pb_io.specs.declared.fault.Fault.{Fault}
use Rattle.pb_io.specs.declared.fault.Fault.TheVariants.{Write}
use Rattle.pb_accepted.specs.Ledger.{LedgerState}
use Rattle.pb_accepted.specs.Rules.{CountingRules}
use Rattle.pb_export.specs.Exporting as export
use Rattle.pb_export.specs.Exporting.{ExportsUntil, fault_of_export}
use Rattle.pb_export.specs.declared.exporting.ExportFault.{ExportFault}
use Rattle.pb_ledger.specs.Change.{across}
use Rattle.pb_commands.specs.declared.stop.Stopped.{Stopped}
use Rattle.pb_commands.specs.declared.stop.Stopped.TheVariants as stopped
use Rattle.pb_commands.specs.Runs.{Change, IsSame, MakesLedger, MakesNoLedger, Takes}
use Rattle.pb_commands.specs.declared.run.Report.{Report}
use Rattle.pb_commands.specs.declared.run.Intake.{Intake}

-- the lines of the export were put and handed on, so many, or that broke off; or none was put, by
-- the fault that ended the submissions
abbrev pub ExportsTaken : Change SinkState → Intake → Result Report Fault → Type 0
ExportsTaken sink taken (Ok report) = (taken.end ≡ Ok report.totals)
    × across (export.Exports taken.ledger) sink report.entries
ExportsTaken sink taken (Err fault) = ((taken.end ≡ Err fault) × IsSame sink)
    ⊎ (IsOk taken.end × (why : ExportFault) × across (ExportsUntil taken.ledger) sink why
    × (fault ≡ fault_of_export why))

-- the submissions were taken, and their replies dropped, by a sink that doesn't fail
abbrev pub TakesSilently : CountingRules → ℕ → Change SourceState → Change SourceState → Intake
    → Type 0
TakesSilently rules fills table lines taken = (new : LedgerState)
    × MakesLedger rules fills table new × (replies : Change SinkState)
    × (replies.new.failed ≡ false) × Takes fills lines replies new taken

-- how a run ends: with an export of what was taken; or before a submission was read
abbrev pub ExportRun : CountingRules → ℕ → Change SourceState → Change SourceState
    → Change SinkState → Result Report Stopped → Type 0
ExportRun rules fills table lines sink (Ok report) = (taken : Intake)
    × TakesSilently rules fills table lines taken × ExportsTaken sink taken (Ok report)
ExportRun rules fills table lines sink (Err why) =
    (MakesNoLedger fills table sink why × IsSame lines)
    ⊎ ((taken : Intake) × TakesSilently rules fills table lines taken
    × (fault : Fault) × ExportsTaken sink taken (Err fault) × (why ≡ stopped.Fault fault))

-- a write fault comes only from a sink that has failed, and where the sink has failed since, it
-- stopped for nothing else
pub record BlamesSink (sink : Change SinkState) (why : Stopped) : Type 0 where
  pub only : why ≡ stopped.Fault Write → sink.new.failed ≡ true
  pub always : sink.old.failed ≡ false → sink.new.failed ≡ true → why ≡ stopped.Fault Write
