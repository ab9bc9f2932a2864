-- What a command puts that judges its input. Below, `judges` says what the input comes to.
use Rattle.std.specs.Prelude.{◌≡◌, ℕ, Bool, List, ◌++◌, Result, Ok, Err, codes, take, false, true}
use Rattle.std.specs.Prelude.{IfErr, OnErr, OnOk, MatchResult, decimal, Option, None, Some, ◌⊎◌}
use Rattle.std.specs.Result.{result_map_both}
use Rattle.std.specs.Io.KnownBytes.{Appends}
pub use Rattle.pb_board.specs.LineEnd.{with_end}
pub use Rattle.pb_io.specs.Sink.{Put, SinkState}
use Rattle.pb_io.specs.Sink.{HandedOnOnce}
use Rattle.pb_io.specs.declared.fault.Fault.{Fault}
use Rattle.pb_poly.specs.declared.table.TableFault.{TableFault}
use Rattle.pb_io.specs.Fault.{fault_of_read}
use Rattle.pb_poly.specs.declared.reading.BookError.{BookError}
use Rattle.pb_board.specs.declared.refusal.FenError.{FenError}
use Rattle.pb_board.specs.Fields.{fields, space}
use Rattle.pb_board.specs.Position.{IsRecord, Record}
use Rattle.pb_board.specs.Refusal.{IsDueFen, IsFirstOf, fen_errors}
use Rattle.pb_board.specs.Text.{fen_text}
use Rattle.pb_board.specs.Words.{word_of}
use Rattle.pb_ledger.specs.declared.saving.LoadError.{LoadError}
use Rattle.pb_commands.specs.declared.stop.Refused.{Refused}
use Rattle.pb_commands.specs.declared.stop.Stopped.{Stopped}
use Rattle.pb_commands.specs.declared.stop.Stop.{Stop}
use Rattle.pb_commands.specs.declared.store.StoreError.{StoreError}

-- what an input comes to: the answer and the text that is to be put, or a fault of reading or of
-- memory
abbrev pub Verdict : Type 0
Verdict = Result (Bool × List ℕ) Fault

-- What comes of an input, where `is` tells what it is: it is an X, and then this is so of the X; or
-- it is none for a reason, and then that is so of the reason.
abbrev pub ByInput : {X E : Type 0} → (Result X E → Type 0) → (X → Type 0) → (E → Type 0) → Type 0
ByInput {X} {E} is goes ends = (found : Result X E) × is found × MatchResult found goes ends

-- the input is refused, and a line says why
abbrev pub refused_for : List ℕ → Verdict
refused_for why = Ok (false, with_end (codes "refused " ++ why))

-- the whole text was put
pub record PutsText (judges : Verdict → Type 0) (sink sink' : SinkState)
    (answer : Bool) : Type 0 where
  pub out : List ℕ
  pub judged : judges (Ok (answer, out))
  pub put : Appends sink.bytes sink'.bytes out

-- the sink failed, and a front of the text was put, and none of it handed on
pub record PutsFrontOfText (judges : Verdict → Type 0) (sink sink' : SinkState) : Type 0 where
  pub answer : Bool
  pub out : List ℕ
  pub judged : judges (Ok (answer, out))
  pub count : ℕ
  pub put : Appends sink.bytes sink'.bytes (take count out)
  pub fails : sink'.failed ≡ true
  pub flushes : sink'.flushes ≡ sink.flushes

-- at a fault that isn't the sink's nothing was put, nor was the sink touched
abbrev pub PutsUntil : (Verdict → Type 0) → SinkState → SinkState → Fault → Type 0
PutsUntil judges sink sink' Fault.Write = PutsFrontOfText judges sink sink'
PutsUntil judges sink sink' fault = judges (Err fault) × (sink' ≡ sink)

-- how a command ends: the whole text was put and then handed on, or a fault came
abbrev pub PutsOrEnds : (Verdict → Type 0) → SinkState → SinkState → Result Bool Fault → Type 0
PutsOrEnds judges sink sink' (Ok answer) =
    PutsText judges sink sink' answer × HandedOnOnce sink sink'
PutsOrEnds judges sink sink' (Err fault) = PutsUntil judges sink sink' fault

-- the input comes to this, and is refused by it: the line was put and then handed on, or a fault
-- came
abbrev pub PutsRefusal : Verdict → SinkState → SinkState → Result (Unit {0}) Fault → Type 0
PutsRefusal verdict sink sink' result =
    PutsOrEnds (λ v. v ≡ verdict) sink sink' (result_map_both (λ _. false) (λ fault. fault) result)

-- all the bytes are put and then handed on, or the sink has failed, and of these bytes a front was
-- put, and none handed on
pub record Shows {A : Type 0} (old new : SinkState) (answer : Result A Fault)
    (bytes : List ℕ) : Type 0 where
  pub all : OnOk answer (Appends old.bytes new.bytes bytes)
  pub handed_on : OnOk answer (HandedOnOnce old new)
  pub fault : IfErr answer (λ fault. (fault ≡ Fault.Write) × (new.failed ≡ true))
  pub front : OnErr answer ((count : ℕ) × Appends old.bytes new.bytes (take count bytes))
  pub flushes : OnErr answer (new.flushes ≡ old.flushes)

-- ---- what is put where an input is none

-- what a file comes to that gave no table for this reason
abbrev pub table_verdict : TableFault → Verdict
table_verdict TableFault.Long = refused_for (codes "table long")
table_verdict (TableFault.Line number) = refused_for (codes "table line " ++ decimal number)
table_verdict (TableFault.Count count) = refused_for (codes "table count " ++ decimal count)
table_verdict (TableFault.Fault fault) = Err (fault_of_read fault)

-- what a file comes to that gave no book for this reason
abbrev pub book_verdict : BookError → Verdict
book_verdict (BookError.Unsorted number) = refused_for (codes "book unsorted " ++ decimal number)
book_verdict (BookError.Cut extra) = refused_for (codes "book cut " ++ decimal extra)
book_verdict BookError.Read = Err Fault.Read
book_verdict BookError.Endless = Err Fault.Endless
book_verdict BookError.Memory = Err Fault.Memory

-- what a text comes to that is no record for this reason
abbrev pub record_verdict : FenError → Verdict
record_verdict e = refused_for (codes "fen " ++ word_of e)

-- the text is this record, or no record for this reason
abbrev pub AsRecord : List ℕ → Result Record FenError → Type 0
AsRecord fen (Ok f) = IsRecord f × (fen ≡ fen_text f)
AsRecord fen (Err e) = IsFirstOf fen_errors (IsDueFen (fields space fen)) e

-- what a saved ledger comes to that isn't loaded for this reason: a refusal or a fault
abbrev pub saved_verdict : LoadError → Verdict
saved_verdict (LoadError.Line n) = refused_for (codes "ledger line " ++ decimal n)
saved_verdict LoadError.Read = Err Fault.Read
saved_verdict LoadError.Endless = Err Fault.Endless
saved_verdict LoadError.Memory = Err Fault.Memory

-- what an input comes to that is refused for this reason
abbrev pub refused_verdict : Refused → Verdict
refused_verdict (Refused.Fen e) = record_verdict e
refused_verdict (Refused.Spelling n) = refused_for (codes "spelling " ++ decimal n)
refused_verdict (Refused.Illegal n) = refused_for (codes "illegal " ++ decimal n)
refused_verdict (Refused.Table e) = table_verdict e
refused_verdict (Refused.Book e) = book_verdict e
refused_verdict (Refused.Ledger e) = saved_verdict e

-- ---- why a command stops

-- what was made, or none where an input was refused
abbrev pub unless_refused : {X : Type 0} → Result X Stopped → Result (Option X) Fault
unless_refused (Ok made) = Ok (Some made)
unless_refused (Err (Stopped.Refused why)) = Ok None
unless_refused (Err (Stopped.Fault f)) = Err f

-- whether the input was taken, or the fault
abbrev pub was_taken : Result Bool Stopped → Result Bool Fault
was_taken (Ok answer) = Ok answer
was_taken (Err (Stopped.Refused why)) = Ok false
was_taken (Err (Stopped.Fault f)) = Err f

-- What comes of judging an input: it is an X, and the sink is left alone, or it is refused for the
-- reason whose line was shown, or the reason is a fault or its line couldn't be shown.
abbrev pub Accepts : {X : Type 0} → Result X Refused → SinkState → SinkState → Result X Stopped
    → Type 0
Accepts judged sink sink' (Ok x) = (judged ≡ Ok x) × (sink' ≡ sink)
Accepts judged sink sink' (Err (Stopped.Refused why)) =
    (judged ≡ Err why) × PutsRefusal (refused_verdict why) sink sink' (Ok tt)
Accepts judged sink sink' (Err (Stopped.Fault f)) =
    (why : Refused) × (judged ≡ Err why) × PutsRefusal (refused_verdict why) sink sink' (Err f)

-- How a command ends that judges its input: the whole text of an input that is taken was put and
-- then handed on, or the line of the reason for which the input is refused, or a fault came.
abbrev pub StopsOrEnds : (Verdict → Type 0) → SinkState → SinkState → Result Bool Stopped → Type 0
StopsOrEnds judges sink sink' (Ok answer) =
    (answer ≡ true) × PutsOrEnds judges sink sink' (Ok true)
StopsOrEnds judges sink sink' (Err (Stopped.Refused why)) =
    judges (refused_verdict why) × PutsRefusal (refused_verdict why) sink sink' (Ok tt)
StopsOrEnds judges sink sink' (Err (Stopped.Fault f)) = PutsOrEnds judges sink sink' (Err f)

-- ---- what two inputs come to

-- a text that the one input comes to is one that the other comes to
abbrev pub TextsAreOf : (Verdict → Type 0) → (Verdict → Type 0) → Type 0
TextsAreOf judges others = (text : Bool × List ℕ) → judges (Ok text) → others (Ok text)

-- where the other input comes to a text, the one comes to that text or to want of memory
abbrev pub OnlyTextsOf : (Verdict → Type 0) → (Verdict → Type 0) → Type 0
OnlyTextsOf judges others = (text : Bool × List ℕ) (verdict : Verdict) → others (Ok text)
    → judges verdict → (verdict ≡ Ok text) ⊎ (verdict ≡ Err Fault.Memory)

-- ---- which stop and which status each reason is

-- a command stopped
abbrev pub stop_of : Stopped → Stop
stop_of (Stopped.Refused why) = Stop.Refused why
stop_of (Stopped.Fault fault) = Stop.Fault fault

-- a text isn't kept at its store
abbrev pub stop_of_store : StoreError → Stop
stop_of_store StoreError.Open = Stop.NotOpened
stop_of_store StoreError.Write = Stop.Fault Fault.Write
stop_of_store StoreError.Memory = Stop.Fault Fault.Memory

-- 0 where the input was taken, 1 where it was refused, 3 where the command stopped before its end
abbrev pub status_of : Result Bool Fault → ℕ
status_of (Ok true) = 0
status_of (Ok false) = 1
status_of (Err _) = 3
