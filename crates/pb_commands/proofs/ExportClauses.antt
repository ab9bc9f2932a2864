-- What a run of the command `export` blames, from how it ends.
use Rattle.std.proofs.Common.{◌≡◌, ◌∙◌, ◌≢◌, ℕ, Result, Ok, Err, ap, false, inl, inr, refl, subst}
use Rattle.std.proofs.Common.{sym}
use Rattle.std.specs.Prelude.{IfErr, IsErrAnd, MatchResult}
use Rattle.pb_io.specs.Sink.{SinkState}
use Rattle.pb_io.specs.Source.{SourceState}
use Rattle.pb_io.specs.declared.fault.Fault.{Fault}
use Rattle.pb_io.specs.declared.fault.Fault.TheVariants.{Read, Write, Endless, Memory}
use Rattle.pb_io.proofs.FlushLemmas.{still_works}
use Rattle.pb_accepted.specs.Ledger.{LedgerState}
use Rattle.pb_accepted.specs.Rules.{CountingRules}
use Rattle.pb_export.specs.Exporting.{ExportsUntil, fault_of_export}
use Rattle.pb_export.specs.declared.exporting.ExportFault.{ExportFault}
use Rattle.pb_export.specs.declared.exporting.ExportFault.TheVariants as export
use Rattle.pb_ledger.specs.declared.collecting.Totals.{Totals}
use Rattle.pb_commands.specs.Judged.{PutsUntil, Verdict, refused_verdict}
use Rattle.pb_commands.specs.declared.stop.Refused.{Refused}
use Rattle.pb_commands.specs.declared.stop.Stopped.{Stopped}
use Rattle.pb_commands.specs.declared.stop.Stopped.TheVariants as stopped
use Rattle.pb_commands.specs.Runs.{Change, IsSame, StopsFor, Takes}
use Rattle.pb_commands.specs.ExportRun.{BlamesSink, ExportRun, ExportsTaken, TakesSilently}
use Rattle.pb_commands.specs.declared.run.Intake.{Intake}
use Rattle.pb_commands.specs.declared.run.Report.{Report}

abbrev Fails : Fault → Stopped
Fails fault = stopped.Fault fault

same_fault : (f g : Fault) → Fails f ≡ Fails g → f ≡ g
same_fault f g is = cc is

-- where the sink works, it isn't blamed
works_still : (sink : Change SinkState) (why : Stopped) → why ≢ Fails Write → sink.new.failed ≡ false → BlamesSink sink why
works_still sink why other works = record { only = λ is. absurd (other is); always = λ worked fails. absurd (cc (sym fails ∙ works)) }

-- a sink that was left alone isn't blamed
no_blame : (sink : Change SinkState) (why : Stopped) → why ≢ Fails Write → IsSame sink → BlamesSink sink why
no_blame sink why other same = record {
  only = λ is. absurd (other is);
  always = λ works fails. absurd (cc (sym fails ∙ ap (λ (x : SinkState). x.failed) same ∙ works));
}

-- a sink that has not failed is no reason to end
not_written : (fills : ℕ) (lines : Change SourceState) (replies : Change SinkState) (held left : LedgerState) (end : Result Totals Fault) (fault : Fault) → replies.new.failed ≡ false
    → Takes fills lines replies held (record { ledger = left; end = end }) → end ≡ Err fault → Fails fault ≢ Fails Write
not_written fills lines replies held left (Ok totals) fault works h is = absurd (cc is)
not_written fills lines replies held left (Err Read) fault works h is = λ same. cc (same_fault _ _ same, is)
not_written fills lines replies held left (Err Write) fault works h is = absurd (cc (sym h.1.0 ∙ works))
not_written fills lines replies held left (Err Endless) fault works h is = λ same. cc (same_fault _ _ same, is)
not_written fills lines replies held left (Err Memory) fault works h is = λ same. cc (same_fault _ _ same, is)

-- at the export
blame_export : (l : LedgerState) (sink : Change SinkState) (e : ExportFault) → ExportsUntil l sink.old sink.new e → BlamesSink sink (Fails (fault_of_export e))
blame_export l sink export.Write h = record { only = λ _. h.cause.0; always = λ works fails. refl }
blame_export l sink export.Memory h = record {
  only = λ write. absurd (cc (same_fault _ _ write));
  always = λ works fails. absurd (cc (sym fails ∙ still_works sink.old sink.new h.cause works));
}

-- at the line that refuses the table
blame_until : (judges : Verdict → Type 0) (sink : Change SinkState) (fault : Fault) → PutsUntil judges sink.old sink.new fault → BlamesSink sink (Fails fault)
blame_until judges sink Write h = record { only = λ is. h.fails; always = λ works fails. refl }
blame_until judges sink Read h = no_blame sink (Fails Read) (λ is. cc (same_fault _ _ is)) h.1
blame_until judges sink Endless h = no_blame sink (Fails Endless) (λ is. cc (same_fault _ _ is)) h.1
blame_until judges sink Memory h = no_blame sink (Fails Memory) (λ is. cc (same_fault _ _ is)) h.1

blame_line : (why : Refused) (sink : Change SinkState) (stop : Stopped) → StopsFor why sink stop → BlamesSink sink stop
blame_line why sink (stopped.Refused told) (is, shown) = works_still sink (stopped.Refused told) (λ same. cc same) shown.1.0.0
blame_line why sink (stopped.Fault fault) (other, is, until) = blame_until (λ v. v ≡ refused_verdict other) sink fault until

pub blame : (rules : CountingRules) (fills : ℕ) (table lines : Change SourceState) (sink : Change SinkState) (result : Result Report Stopped)
    → ExportRun rules fills table lines sink result → IfErr result (BlamesSink sink)
blame rules fills table lines sink (Ok report) h = tt
blame rules fills table lines sink (Err why) (inl ((cause, read, stops), unread)) = blame_line _ sink why stops
blame rules fills table lines sink (Err why) (inr (taken, (new, opens, replies, works, takes), fault, inl (is, same), stop)) =
    subst (BlamesSink sink) (sym stop) (no_blame sink (Fails fault) (not_written fills lines replies new taken.ledger taken.end fault works takes is) same)
blame rules fills table lines sink (Err why) (inr (taken, took, fault, inr (took_all, e, until, is), stop)) =
    subst (BlamesSink sink) (sym stop) (subst (λ (f : Fault). BlamesSink sink (Fails f)) (sym is) (blame_export taken.ledger sink e until))

-- a run that exports what it took, over a sink that was left alone until then
pub export_run : (rules : CountingRules) (fills : ℕ) (table lines : Change SourceState) (old mid new : SinkState) → mid ≡ old
    → (taken : Intake) → TakesSilently rules fills table lines taken → (made : Result Report Fault) (told : Result Report Stopped) → ExportsTaken (record { old = mid; new = new }) taken made
    → MatchResult made (λ r. told ≡ Ok r) (λ e. IsErrAnd told (λ why. why ≡ Fails e)) → ExportRun rules fills table lines (record { old = old; new = new }) told
export_run rules fills table lines old mid new same taken took (Ok report) told h is =
    subst (ExportRun rules fills table lines (record { old = old; new = new })) (sym is) (taken, took, subst (λ (m : SinkState). ExportsTaken (record { old = m; new = new }) taken (Ok report)) same h)
export_run rules fills table lines old mid new same taken took (Err fault) (Ok report) h is = absurd is
export_run rules fills table lines old mid new same taken took (Err fault) (Err why) h is =
    inr (taken, took, fault, subst (λ (m : SinkState). ExportsTaken (record { old = m; new = new }) taken (Err fault)) same h, is)
