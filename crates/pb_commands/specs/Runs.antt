-- How runs take submissions: from no games on, from those of a saved ledger, or of a journal.
use Rattle.pb_io.specs.Sink.{SinkState}
use Rattle.pb_io.specs.Source.{SourceState}
pub use Rattle.pb_ledger.specs.Change.{Change, IsSame, across, between}
use Rattle.pb_commands.specs.declared.run.Ends.{Ends}
use Rattle.pb_commands.specs.declared.run.JournalEnds.{JournalEnds}
use Rattle.std.specs.Prelude.{⊤, ◌≡◌, ◌⊎◌, ℕ, List, MatchResult, Result, Ok, Err, All, IfOk}
use Rattle.std.specs.Prelude.{IsOkAnd, Option, Some, None}
use Rattle.pb_io.specs.LineTask.{AtEnd}
use Rattle.pb_io.specs.declared.fault.Fault.{Fault}
use Rattle.pb_poly.specs.TableReading.{ReadsTable}
use Rattle.pb_poly.specs.declared.table.TableFault.{TableFault}
pub use Rattle.pb_accepted.specs.Replying.{most_games}
pub use Rattle.pb_accepted.specs.Ledger.{LedgerState, new_ledger}
pub use Rattle.pb_accepted.specs.Rules.{CountingRules}
use Rattle.pb_accepted.specs.Rules.{AreRules}
use Rattle.pb_ledger.specs.Change.{from_to}
use Rattle.pb_ledger.specs.Collecting.{CollectsStream, CollectsUntil}
use Rattle.pb_ledger.specs.Collecting.{Gains, JournalsUntil}
use Rattle.pb_ledger.specs.Saving.{Loads, LoadsUntil}
use Rattle.pb_ledger.specs.Change.{Makes}
use Rattle.pb_ledger.specs.Journal.{ReplaysAll, ReplaysUntil}
use Rattle.pb_ledger.specs.declared.saving.LoadError.{LoadError}
use Rattle.pb_commands.specs.Judged.{Accepts}
use Rattle.pb_commands.specs.declared.stop.Refused.{Refused}
use Rattle.pb_commands.specs.declared.stop.Refused.TheVariants.{Ledger, Table}
use Rattle.pb_commands.specs.declared.stop.Stopped.{Stopped}
use Rattle.pb_commands.specs.declared.stop.Stopped.TheVariants as stopped
use Rattle.pb_commands.specs.declared.run.Intake.{Intake}
use Rattle.pb_io.specs.declared.fault.Fault.TheVariants.{Memory}
use Rattle.pb_poly.specs.Entry.{IsEntry}
use Rattle.pb_poly.specs.declared.book.Entry.{Entry}
use Rattle.pb_accepted.specs.Counting.{IsBookOf}
use Rattle.pb_commands.specs.declared.continuing.Continued.{Continued}

-- the table and the submissions, which are read, and the replies
pub record EndStates : Type 0 where
  pub table : Change SourceState
  pub lines : Change SourceState
  pub replies : Change SinkState

-- a journal, which is read first and written then
pub record JournalStates : Type 0 where
  pub kept : Change SourceState
  pub journal : Change SinkState

abbrev pub states : {Table In Out Watch : Type 0} → (Table → SourceState) → (In → SourceState)
    → (Out → SinkState) → Ends Table In Out Watch → Ends Table In Out Watch → EndStates
states table lines replies old new = record {
  table = between table old.table new.table;
  lines = between lines old.lines new.lines;
  replies = between replies old.replies new.replies;
}

abbrev pub journal_states : {Kept Journal : Type 0} → (Kept → SourceState) → (Journal → SinkState)
    → JournalEnds Kept Journal → JournalEnds Kept Journal → JournalStates
journal_states kept journal old new = record {
  kept = between kept old.kept new.kept;
  journal = between journal old.journal new.journal;
}

-- a run stopped since its input was refused for this reason: the line that says so was put, or a
-- fault came
abbrev pub StopsFor : Refused → Change SinkState → Stopped → Type 0
StopsFor why sink stop = across (Accepts {X = ⊤} (Err why)) sink (Err stop)

-- ---- which games are held first

-- the table was read, and this is a ledger of it without games, by rules within their bounds
abbrev pub MakesLedger : CountingRules → ℕ → Change SourceState → LedgerState → Type 0
MakesLedger rules fills table new = (randoms : List ℕ)
    × across (ReadsTable fills) table (Ok randoms) × AreRules rules
    × (new ≡ new_ledger rules randoms most_games)

-- there is no table, and the run stopped at the line that says so, or by a fault
abbrev pub MakesNoLedger : ℕ → Change SourceState → Change SinkState → Stopped → Type 0
MakesNoLedger fills table sink why = (cause : TableFault)
    × across (ReadsTable fills) table (Err cause) × StopsFor (Table cause) sink why

-- and then all lines of a saved ledger were loaded into it
abbrev pub HoldsSaved : CountingRules → ℕ → Change SourceState → Change SourceState → LedgerState
    → Type 0
HoldsSaved rules fills table saved held = (new : LedgerState) × MakesLedger rules fills table new
    × across (AtEnd fills) saved (Makes Loads (from_to new held))
    × (held ≡ record new { accepted = held.accepted })

-- there is no table, and the saved ledger was left alone; or it can't be gone on from
abbrev pub HoldsNone : CountingRules → ℕ → Change SourceState → Change SourceState
    → Change SinkState → Stopped → Type 0
HoldsNone rules fills table saved sink why = (MakesNoLedger fills table sink why × IsSame saved)
    ⊎ ((new left : LedgerState) × MakesLedger rules fills table new × (cause : LoadError)
    × LoadsUntil fills saved (from_to new left) cause
    × StopsFor (Ledger cause) sink why)

-- ---- how submissions are taken from these games on

-- all submissions were taken, counted and answered, and the replies handed on; or that broke off
abbrev pub Takes : ℕ → Change SourceState → Change SinkState → LedgerState → Intake → Type 0
Takes fills lines replies held taken =
    let ledger = from_to held taken.ledger in
    MatchResult taken.end (CollectsStream fills lines replies ledger)
    (CollectsUntil fills lines replies ledger)

-- the same with a journal, which gains the new games
abbrev pub TakesJournaled : ℕ → Change SourceState → Change SinkState → Change SinkState
    → LedgerState → Intake → Type 0
TakesJournaled fills lines replies journal held taken =
    let ledger = from_to held taken.ledger in
    MatchResult taken.end
    (λ totals. CollectsStream fills lines replies ledger totals × Gains journal ledger)
    (JournalsUntil fills lines replies journal ledger)

-- ---- runs: so the submissions were taken, or none was read

-- a run of `collect`
abbrev pub CollectRun : CountingRules → ℕ → EndStates → Result Intake Stopped → Type 0
CollectRun rules fills e (Ok taken) = (new : LedgerState) × MakesLedger rules fills e.table new
    × Takes fills e.lines e.replies new taken
CollectRun rules fills e (Err why) = MakesNoLedger fills e.table e.replies why × IsSame e.lines

-- a run that goes on from a saved ledger
abbrev pub ContinueRun : CountingRules → ℕ → EndStates → Change SourceState
    → Result Intake Stopped → Type 0
ContinueRun rules fills e saved (Ok taken) = (held : LedgerState)
    × HoldsSaved rules fills e.table saved held × Takes fills e.lines e.replies held taken
ContinueRun rules fills e saved (Err why) =
    HoldsNone rules fills e.table saved e.replies why × IsSame e.lines

-- a run with a journal, which was replayed and its end mended; or a fault ended that
abbrev pub JournalRun : CountingRules → ℕ → EndStates → JournalStates → Result Intake Stopped
    → Type 0
JournalRun rules fills e j (Ok taken) = (new held : LedgerState)
    × MakesLedger rules fills e.table new × (mended : SinkState)
    × ReplaysAll fills j.kept (record j.journal { new = mended }) (from_to new held)
    × (held ≡ record new { accepted = held.accepted })
    × TakesJournaled fills e.lines e.replies (record j.journal { old = mended }) held taken
JournalRun rules fills e j (Err why) = IsSame e.lines
    × ((MakesNoLedger fills e.table e.replies why × IsSame j.kept × IsSame j.journal)
    ⊎ ((new left : LedgerState) × MakesLedger rules fills e.table new × (fault : Fault)
    × ReplaysUntil fills j.kept j.journal (from_to new left) fault
    × IsSame e.replies × (why ≡ stopped.Fault fault)))

-- ---- what is made of the submissions that a run has taken

-- these are the entries of the book of the games that a ledger holds; or memory was wanting for it
abbrev pub MayBeBook : LedgerState → Result (List Entry) Fault → Type 0
MayBeBook left (Ok entries) =
    IsBookOf left.basis left.accepted entries × All IsEntry entries
MayBeBook left (Err fault) = fault ≡ Memory

-- the book of what was taken is made of it; or there is none, but the fault that ended the taking
abbrev pub MakesBook : Intake → Result (List Entry) Fault → Type 0
MakesBook taken made =
    MatchResult taken.end (λ totals. MayBeBook taken.ledger made) (λ fault. made ≡ Err fault)

-- the same beside the ledger, which is there also where a fault came
abbrev pub MakesContinued : Intake → Result Continued Fault → Type 0
MakesContinued taken made =
    IsOkAnd made (λ run. (run.ledger ≡ taken.ledger) × MakesBook taken run.book)

-- what a run answers: what is made of what it took; or nothing, where an input was refused
abbrev pub Answers : {X : Type 0} → (Result Intake Stopped → Type 0)
    → (Intake → Result X Fault → Type 0) → Result (Option X) Fault → Type 0
Answers run makes (Ok (Some x)) = (taken : Intake) × run (Ok taken) × makes taken (Ok x)
Answers run makes (Ok None) = (why : Refused) × run (Err (stopped.Refused why))
Answers run makes (Err fault) =
    run (Err (stopped.Fault fault)) ⊎ ((taken : Intake) × run (Ok taken) × makes taken (Err fault))

-- a run ended so, and if it took submissions, this is so of the ledger that it leaves with the
-- entries of each book that may be made
abbrev pub Headed : (Result Intake Stopped → Type 0) → (LedgerState → List Entry → Type 0)
    → Result Intake Stopped → Type 0
Headed run says result = run result × IfOk result (λ taken.
    (entries : List Entry) → MakesBook taken (Ok entries) → says taken.ledger entries)
