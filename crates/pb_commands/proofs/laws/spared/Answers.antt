use Rattle.std.proofs.Common.{◌≡◌, ◌∙◌, ℕ, Result, Ok, Err, Some, inl, inr, refl, sym}
use Rattle.std.specs.Result.{result_err}
use Rattle.pb_io.specs.declared.fault.Fault.{Fault}
use Rattle.pb_accepted.specs.Ledger.{LedgerState}
use Rattle.pb_ledger.specs.declared.collecting.Totals.{Totals}
use Rattle.pb_commands.specs.Into.{Into, KeepsAfter, KeepsBook}
use Rattle.pb_commands.specs.Runs.{Change, CollectRun, IsSame}
use Rattle.pb_commands.specs.Store.{StoreState}
use Rattle.pb_commands.specs.declared.run.Intake.{Intake}
use Rattle.pb_commands.specs.declared.run.Report.{Report}
use Rattle.pb_commands.specs.declared.stop.Refused.{Refused}
use Rattle.pb_commands.specs.declared.stop.Stop.{Stop}
use Rattle.pb_commands.specs.declared.stop.Stop.TheVariants as stop
use Rattle.pb_commands.specs.declared.stop.Stopped.{Stopped}
use Rattle.pb_commands.specs.declared.store.StoreError.{StoreError}
use Rattle.pb_commands.specs.declared.store.StoreError.TheVariants as store_error
use Rattle.pb_commands.proofs.laws.spared.Goals as goal

unrefused : (store : Change StoreState) (left : LedgerState) (end : Result Totals Fault) (why : Refused)
    → KeepsBook store (record { ledger = left; end = end }) (Err (stop.Refused why)) → IsSame store
unrefused store left (Ok totals) why (store_error.Open, keeps, is) = absurd (cc is)
unrefused store left (Ok totals) why (store_error.Write, keeps, is) = absurd (cc is)
unrefused store left (Ok totals) why (store_error.Memory, keeps, is) = absurd (cc is)
unrefused store left (Err fault) why h = h.0

refused : (run : Result Intake Stopped → Type 0) (store : Change StoreState) (why : Refused)
    → Into run (KeepsBook store) (IsSame store) (Err (stop.Refused why)) → IsSame store
refused run store why (inl (taken, so, h)) = unrefused store taken.ledger taken.end why h
refused run store why (inr (other, so, same, is)) = same

ended : (store : Change StoreState) (left : LedgerState) (end : Result Totals Fault) (fault : Fault) (result : Result Report Stop) → end ≡ Err fault
    → KeepsBook store (record { ledger = left; end = end }) result → IsSame store
ended store left (Ok totals) fault result is h = absurd (cc is)
ended store left (Err other) fault (Ok report) is h = absurd (cc h.0)
ended store left (Err other) fault (Err why) is h = h.0

unkept : (store : Change StoreState) (left : LedgerState) (kept : Result ℕ StoreError) (end : Result Totals Fault) (why : StoreError) (result : Result Report Stop)
    → result_err kept ≡ Some why → KeepsAfter kept end store (record { ledger = left; end = end }) result → IsSame store
unkept store left (Ok n) end why result is h = absurd (cc is)
unkept store left (Err e) (Ok totals) why result is h = h.0
unkept store left (Err e) (Err fault) why result is h = ended store left (Err fault) fault result refl h

pub returns : goal.returns
returns c = record {
  refused = λ rules fills e. refused (CollectRun rules fills e);
  fault = λ store taken. ended store taken.ledger taken.end;
  ledger = λ ledger book taken why result failed h. unkept book taken.ledger h.2 taken.end why result (sym h.3.fault ∙ failed) h.4;
}
