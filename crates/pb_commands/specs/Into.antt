-- What runs keep at the stores of a ledger and of a book.
use Rattle.std.specs.Prelude.{◌≡◌, ◌⊎◌, ◌-◌, ◌^◌, ℕ, List, MatchResult, Result, Ok, Err, IfOk}
use Rattle.std.specs.Prelude.{length, min}
pub use Rattle.pb_poly.specs.Book.{book_bytes}
use Rattle.pb_poly.specs.declared.book.Entry.{Entry}
use Rattle.pb_ledger.specs.Change.{across}
pub use Rattle.pb_ledger.specs.Saving.{Saved}
use Rattle.pb_ledger.specs.declared.collecting.Totals.{Totals}
use Rattle.pb_io.specs.declared.fault.Fault.{Fault}
use Rattle.pb_commands.specs.declared.stop.Stopped.{Stopped}
use Rattle.pb_commands.specs.Runs.{Change, IsSame, MakesBook}
use Rattle.pb_commands.specs.Judged.{stop_of, stop_of_store}
use Rattle.pb_commands.specs.Store.{KeepsBytes, StoreState}
use Rattle.pb_commands.specs.declared.stop.Stop.{Stop}
use Rattle.pb_commands.specs.declared.run.Report.{Report}
use Rattle.pb_commands.specs.declared.run.Intake.{Intake}
use Rattle.pb_commands.specs.declared.store.StoreError.{StoreError}

-- the bytes of the book's entries went to the store, whose answer counts the entries, or tells why
-- they weren't kept
abbrev pub KeepsEntries : Change StoreState → Intake → Result ℕ StoreError → Type 0
KeepsEntries store taken answer = (entries : List Entry) × MakesBook taken (Ok entries)
    × across KeepsBytes store answer (book_bytes entries)
    × IfOk answer (λ n. n ≡ min (length entries) (2 ^ 64 - 1))

-- the book of what was taken was kept, or the store told why not; or a fault ended the taking, so
-- that there is no book, and the store was left alone
abbrev pub KeepsBook : Change StoreState → Intake → Result Report Stop → Type 0
KeepsBook store taken (Ok report) =
    (taken.end ≡ Ok report.totals) × KeepsEntries store taken (Ok report.entries)
KeepsBook store taken (Err stop) = MatchResult taken.end
    (λ totals. (why : StoreError) × KeepsEntries store taken (Err why) × (stop ≡ stop_of_store why))
    (λ fault. IsSame store × (stop ≡ Stop.Fault fault))

-- the book is kept once the ledger was kept with this answer: there is none without its ledger
abbrev pub KeepsAfter : Result ℕ StoreError → Result Totals Fault → Change StoreState → Intake
    → Result Report Stop → Type 0
KeepsAfter (Err why) (Ok totals) store taken result =
    IsSame store × (result ≡ Err (stop_of_store why))
KeepsAfter kept end store taken result = KeepsBook store taken result

-- the ledger was kept, also where a fault ended the submissions, and then the book
abbrev pub KeepsBoth : Change StoreState → Change StoreState → Intake → Result Report Stop
    → Type 0
KeepsBoth ledger book taken result = (bytes : List ℕ) × Saved taken.ledger.accepted bytes
    × (kept : Result ℕ StoreError) × across KeepsBytes ledger kept bytes
    × KeepsAfter kept taken.end book taken result

-- how a run ends that keeps what is made of what it took; or it stopped before that, and the stores
-- were left alone
abbrev pub Into : (Result Intake Stopped → Type 0) → (Intake → Result Report Stop → Type 0)
    → Type 0 → Result Report Stop → Type 0
Into run keeps untouched result = ((taken : Intake) × run (Ok taken) × keeps taken result)
    ⊎ ((why : Stopped) × run (Err why) × untouched × (result ≡ Err (stop_of why)))
