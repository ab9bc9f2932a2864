-- The book of a ledger as the bytes of a file, which are put part by part.
use Rattle.std.specs.Prelude.{◌≡◌, ℕ, ◌-◌, ◌^◌, min, true, List, length, take, Result, Err, IfOk}
use Rattle.std.specs.Result.{result_map_both}
use Rattle.pb_io.specs.Sink.{AwaitsFlush, Lasts, SinkState, Writes}
use Rattle.pb_poly.specs.Book.{BookBytes}
use Rattle.pb_poly.specs.declared.book.Entry.{Entry}
use Rattle.pb_accepted.specs.Counting.{IsBookOf}
use Rattle.pb_accepted.specs.Ledger.{LedgerState}
use Rattle.pb_ledger.specs.Change.{Change, across, Puts}
use Rattle.pb_export.specs.declared.exporting.ExportFault.{ExportFault}
use Rattle.pb_export.specs.declared.exporting.ExportFault.TheVariants as fault

-- these are the bytes of the book of the games that are held, and this is how many entries it has,
-- or 2 ^ 64 - 1 where it has more
abbrev pub BookText : LedgerState → List ℕ → ℕ → Type 0
BookText ledger bytes count = (book : List Entry)
    × IsBookOf ledger.basis ledger.accepted book
    × BookBytes book bytes × (count ≡ min (length book) (2 ^ 64 - 1))

-- These bytes were put, and nothing was handed on.
pub record PutsOn (sink : Change SinkState) (bytes : List ℕ) : Type 0 where
  pub put : Puts sink bytes
  pub awaits : across AwaitsFlush sink
  -- a sink that had failed still has
  pub stays_failed : sink.old.failed ≡ true → sink.new.failed ≡ true
  pub lasts : Lasts sink.old.lasting sink.new.lasting

-- What a call does that puts bytes and then flushes once, and may want memory on the way: all of
-- these bytes were put and then handed on; or the sink has failed, or memory was wanting, and of
-- these bytes a front was put.
abbrev pub WritesOrWants : {A : Type 0} → Change SinkState → Result A ExportFault → List ℕ → Type 0
WritesOrWants sink (Err fault.Memory) bytes = (count : ℕ) × PutsOn sink (take count bytes)
WritesOrWants sink answer bytes =
    across Writes sink (result_map_both (λ _. tt) (λ e. e) answer) bytes

-- what a call does that writes the book, and answers how many entries it has
abbrev pub WritesBook : LedgerState → Change SinkState → Result ℕ ExportFault → Type 0
WritesBook ledger sink answer = (bytes : List ℕ) × (count : ℕ) × BookText ledger bytes count
    × WritesOrWants sink answer bytes × IfOk answer (λ n. n ≡ count)
