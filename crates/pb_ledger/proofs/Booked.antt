-- The book of a ledger, put stretch by stretch.
use Rattle.std.proofs.Common.{◌≡◌, ◌∙◌, ◌⊎◌, ℕ, ◌<◌, Option, None, Some, List, [], ◌++◌, ◌+◌, ◌-◌, ◌^◌, min, length, take, All, Result, Ok, Err, ap, append_assoc, inl, inr, refl, subst, sym, arith}
use Rattle.std.specs.Prelude.{IfSome}
use Rattle.std.specs.Io.KnownBytes.{Appends}
use Rattle.std.specs.Result.{IsErr}
use Rattle.std.proofs.KnownBytes.{Appends-nil, Appends-trans}
use Rattle.std.proofs.Math.Seq.{take-append_seam}
use Rattle.std.proofs.lemmas.List.{length-append}
use Rattle.pb_io.specs.Sink.{AwaitsFlush, Flush, Put, SinkState}
use Rattle.pb_io.proofs.FlushLemmas.{AwaitsFlush-put, AwaitsFlush-trans}
use Rattle.pb_io.proofs.PutLemmas.{Lasts-refl, Lasts-trans, front_more, put_failed}
use Rattle.pb_io.proofs.WritesLemmas.{Writes-flushed, Writes-stopped}
use Rattle.pb_poly.specs.Book.{book_bytes}
use Rattle.pb_poly.specs.Entry.{IsEntry}
use Rattle.pb_poly.specs.declared.book.Entry.{Entry}
use Rattle.pb_poly.proofs.Entries.{book_bytes-append}
use Rattle.pb_accepted.specs.Counting.{IsBook, counted, stretch}
use Rattle.pb_accepted.specs.Ledger.{IsLedger, LedgerState}
use Rattle.pb_accepted.proofs.BookLaws.{one_book}
use Rattle.pb_accepted.proofs.BookStretches.{front_stretch, joined_stretch, no_stretch, whole_stretch}
use Rattle.pb_accepted.proofs.SomeBooks.{some_book_of_ledger}
use Rattle.pb_ledger.specs.Change.{from_to}
use Rattle.pb_ledger.specs.Booking.{PutsOn, WritesBook}
use Rattle.pb_export.specs.declared.exporting.ExportFault.{ExportFault}
use Rattle.pb_export.specs.declared.exporting.ExportFault.TheVariants as fault

-- ---- bytes that are put part by part

pub puts_none : (sink : SinkState) → PutsOn (from_to sink sink) []
puts_none sink = record { put = Appends-nil sink.bytes; awaits = inl refl; stays_failed = λ h. h; lasts = Lasts-refl sink.lasting }

pub puts_then : (old mid new : SinkState) (a b : List ℕ) → PutsOn (from_to old mid) a → PutsOn (from_to mid new) b → PutsOn (from_to old new) (a ++ b)
puts_then old mid new a b first next = record {
  put = Appends-trans _ _ _ a b first.put next.put;
  awaits = AwaitsFlush-trans old mid new first.awaits next.awaits;
  stays_failed = λ h. next.stays_failed (first.stays_failed h);
  lasts = Lasts-trans _ _ _ first.lasts next.lasts;
}

pub puts_one : {E : Type 0} (old new : SinkState) (v : Unit {0}) (bytes : List ℕ) → Put {E = E} old new (Ok v) bytes → PutsOn (from_to old new) bytes
puts_one old new v bytes put = record {
  put = put.all;
  awaits = AwaitsFlush-put old new v bytes put;
  stays_failed = λ h. let bad = put.stays_failed h in cc;
  lasts = put.lasts;
}

awaits_flushes : (old new : SinkState) → AwaitsFlush old new → new.flushes ≡ old.flushes
awaits_flushes old new (inl same) = ap (λ (s : SinkState). s.flushes) same
awaits_flushes old new (inr now) = now.2

-- a put that failed, after others
pub puts_stopped : {E F : Type 0} (old mid new : SinkState) (e : E) (answer : Result (Unit {0}) F) (a b rest whole : List ℕ) → IsErr answer → a ++ (b ++ rest) ≡ whole
    → PutsOn (from_to old mid) a → Put mid new (Err e) b → Put old new answer whole
puts_stopped old mid new e answer a b rest whole failing is first put =
    put_failed old new answer whole failing (front_more _ _ _ a b rest whole first.put is put.front.0 put.front.1) put.failed (Lasts-trans _ _ _ first.lasts put.lasts)
    put.flushed (put.flushes ∙ awaits_flushes old mid first.awaits)

-- ---- the stretches of the book

-- the entries before the next stretch were put, and counted
pub record Booking (ledger : LedgerState) (next : Option ℕ) (old new : SinkState) (count : ℕ) : Type 0 where
  pub book : List Entry
  pub is : IsBook (counted ledger.basis ledger.accepted) ledger.basis.rules.least book
  pub bounds : All IsEntry book
  pub puts : PutsOn (from_to old new) (book_bytes (stretch 0 next book))
  pub counted : count ≡ min (length (stretch 0 next book)) (2 ^ 64 - 1)

starts : (ledger : LedgerState) → IsLedger ledger → (sink : SinkState) → Booking ledger (Some 0) sink sink 0
starts ledger rules sink =
    let book = some_book_of_ledger ledger rules in
    record { book = book.0; is = book.1; bounds = book.2; puts = subst (λ l. PutsOn (from_to sink sink) (book_bytes l)) (sym (no_stretch book.0)) (puts_none sink); counted = ap (λ (l : List Entry). min (length l) (2 ^ 64 - 1)) (sym (no_stretch book.0)) }

-- nothing was put yet, or the entries before the next stretch were
abbrev pub Begun : LedgerState → Option ℕ → SinkState → SinkState → ℕ → Type 0
Begun ledger next old new count = ((next ≡ Some 0) × (new ≡ old) × (count ≡ 0)) ⊎ Booking ledger next old new count

pub booking_of : (ledger : LedgerState) → IsLedger ledger → (next : Option ℕ) (old new : SinkState) (count : ℕ) → Begun ledger next old new count → Booking ledger next old new count
booking_of ledger rules next old new count (inl h) =
    subst (λ (n : Option ℕ). Booking ledger n old new count) (sym h.0)
    (subst (λ (s : SinkState). Booking ledger (Some 0) old s count) (sym h.1) (subst (λ n. Booking ledger (Some 0) old old n) (sym h.2) (starts ledger rules old)))
booking_of ledger rules next old new count (inr h) = h

pub booking_end : (ledger : LedgerState) (old new : SinkState) (count : ℕ) → Begun ledger None old new count → Booking ledger None old new count
booking_end ledger old new count (inl h) = let bad = h.0 in absurd (cc)
booking_end ledger old new count (inr h) = h

-- the entries of a stretch of the book
abbrev pub IsStretch : LedgerState → ℕ → Option ℕ → List Entry → Type 0
IsStretch ledger first next entries = (book : List Entry) × IsBook (counted ledger.basis ledger.accepted) ledger.basis.rules.least book × (entries ≡ stretch first next book)

module _ (ledger : LedgerState) (old mid : SinkState) (count : ℕ) where
  module _ (first : ℕ) (next : Option ℕ) (entries : List Entry) (onward : IfSome next (λ n. first < n)) (are : IsStretch ledger first next entries) (h : Booking ledger (Some first) old mid count) where
    same : entries ≡ stretch first next h.book
    same = are.2 ∙ ap (stretch first next) (one_book (counted ledger.basis ledger.accepted) ledger.basis.rules.least are.0 h.book are.1 h.is)

    listed : stretch 0 (Some first) h.book ++ entries ≡ stretch 0 next h.book
    listed = ap (λ l. stretch 0 (Some first) h.book ++ l) same ∙ joined_stretch (counted ledger.basis ledger.accepted) ledger.basis.rules.least h.book h.is first next onward

    joined : book_bytes (stretch 0 (Some first) h.book) ++ book_bytes entries ≡ book_bytes (stretch 0 next h.book)
    joined = sym (book_bytes-append (stretch 0 (Some first) h.book) entries) ∙ ap book_bytes listed

    pub goes_on : (new : SinkState) (more_counted : ℕ) → more_counted ≡ min (count + length entries) (2 ^ 64 - 1) → PutsOn (from_to mid new) (book_bytes entries) → Booking ledger next old new more_counted
    goes_on new more_counted is more = record {
      book = h.book;
      is = h.is;
      bounds = h.bounds;
      puts = subst (PutsOn (from_to old new)) joined (puts_then old mid new (book_bytes (stretch 0 (Some first) h.book)) (book_bytes entries) h.puts more);
      counted = omega (arith, is, h.counted, ap length listed, length-append (stretch 0 (Some first) h.book) entries);
    }

    pub breaks : {E : Type 0} (new : SinkState) (e : E) → Put mid new (Err e) (book_bytes entries) → WritesBook ledger (from_to old new) (Err fault.Write)
    breaks new e put =
        let rest = front_stretch (counted ledger.basis ledger.accepted) ledger.basis.rules.least h.book h.is next in
        let a = book_bytes (stretch 0 (Some first) h.book) in
        let cut : a ++ (book_bytes entries ++ book_bytes rest.0) ≡ book_bytes h.book =
        sym (append_assoc a (book_bytes entries) (book_bytes rest.0)) ∙ ap (λ l. l ++ book_bytes rest.0) joined ∙ sym (book_bytes-append (stretch 0 next h.book) rest.0) ∙ ap book_bytes rest.1 in
        let answer : Result (Unit {0}) ExportFault = Err fault.Write in (
          book_bytes h.book,
          min (length h.book) (2 ^ 64 - 1),
          (h.book, h.is, record { bounds = h.bounds; are = refl }, refl),
          Writes-stopped old new answer (book_bytes h.book) refl (puts_stopped old mid new e answer a (book_bytes entries) (book_bytes rest.0) (book_bytes h.book) refl cut h.puts put),
          tt,
        )

  -- memory was wanting for the next stretch
  pub wants : (next : Option ℕ) → Booking ledger next old mid count → WritesBook ledger (from_to old mid) (Err fault.Memory)
  wants next h =
      let rest = front_stretch (counted ledger.basis ledger.accepted) ledger.basis.rules.least h.book h.is next in
      let a = book_bytes (stretch 0 next h.book) in
      let whole : a ++ book_bytes rest.0 ≡ book_bytes h.book = sym (book_bytes-append (stretch 0 next h.book) rest.0) ∙ ap book_bytes rest.1 in
      let front : a ≡ take (length a) (book_bytes h.book) = sym (take-append_seam a (book_bytes rest.0)) ∙ ap (take (length a)) whole in
      (book_bytes h.book, min (length h.book) (2 ^ 64 - 1), (h.book, h.is, record { bounds = h.bounds; are = refl }, refl), (length a, subst (PutsOn (from_to old mid)) front h.puts), tt)

  -- all was put
  module _ (h : Booking ledger None old mid count) where
    all : Appends old.bytes mid.bytes (book_bytes h.book)
    all = subst (λ l. Appends old.bytes mid.bytes (book_bytes l)) (whole_stretch h.book) h.puts.put

    pub ends : {E : Type 0} (new : SinkState) (v : Unit {0}) → Flush {E = E} mid new (Ok v) → WritesBook ledger (from_to old new) (Ok count)
    ends new v flush = (
      book_bytes h.book,
      min (length h.book) (2 ^ 64 - 1),
      (h.book, h.is, record { bounds = h.bounds; are = refl }, refl),
      Writes-flushed old mid new (Ok tt) (book_bytes h.book) all h.puts.stays_failed h.puts.lasts (awaits_flushes old mid h.puts.awaits)
          (record { bytes = flush.bytes; lasts = flush.lasts; all_lasts = flush.all_lasts; failed = flush.failed; stays_failed = λ b. let bad = flush.stays_failed b in cc; flushed = flush.flushed; flushes = flush.flushes }),
      h.counted ∙ ap (λ (l : List Entry). min (length l) (2 ^ 64 - 1)) (whole_stretch h.book),
    )

    pub unflushed : {E : Type 0} (new : SinkState) (e : E) → Flush mid new (Err e) → WritesBook ledger (from_to old new) (Err fault.Write)
    unflushed new e flush = (
      book_bytes h.book,
      min (length h.book) (2 ^ 64 - 1),
      (h.book, h.is, record { bounds = h.bounds; are = refl }, refl),
      Writes-flushed old mid new (Err fault.Write) (book_bytes h.book) all h.puts.stays_failed h.puts.lasts (awaits_flushes old mid h.puts.awaits)
          (record { bytes = flush.bytes; lasts = flush.lasts; all_lasts = tt; failed = flush.failed; stays_failed = λ b. refl; flushed = flush.flushed; flushes = flush.flushes }),
      tt,
    )

-- ---- the entries of a stretch, some at a time

-- some entries between those before them and those behind them
pub cut_at : (before some behind left entries : List Entry) → before ++ left ≡ entries → left ≡ some ++ behind
    → book_bytes before ++ (book_bytes some ++ book_bytes behind) ≡ book_bytes entries
cut_at before some behind left entries are cut =
    ap (λ l. book_bytes before ++ l) (sym (book_bytes-append some behind))
    ∙ sym (book_bytes-append before (some ++ behind))
    ∙ ap book_bytes (ap (λ l. before ++ l) (sym cut) ∙ are)
