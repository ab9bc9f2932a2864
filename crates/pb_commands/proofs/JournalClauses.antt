-- What the clauses of the command `collect` with a journal say, from how its run ends.
use Rattle.std.proofs.Common.{◌≡◌, ℕ, ◌⊎◌, List, Result, Ok, Err, inl, inr, subst}
use Rattle.std.specs.Prelude.{IfErr, IfOk}
use Rattle.pb_io.specs.Source.{HandsOut}
use Rattle.pb_io.specs.Sink.{LastsFirst, SinkState}
use Rattle.pb_io.specs.declared.fault.Fault.{Fault}
use Rattle.pb_poly.proofs.ToldReads.{handed_out}
use Rattle.pb_poly.specs.Book.{book_bytes}
use Rattle.pb_poly.specs.TableReading.{ReadsTable}
use Rattle.pb_poly.specs.declared.book.Entry.{Entry}
use Rattle.pb_accepted.specs.Ledger.{LedgerState, new_ledger}
use Rattle.pb_accepted.specs.Replying.{most_games}
use Rattle.pb_accepted.specs.Rules.{CountingRules}
use Rattle.pb_ledger.specs.Change.{across, from_to}
use Rattle.pb_ledger.specs.Collecting.{CollectsStream}
use Rattle.pb_ledger.specs.Collecting.{Gains, JournalsUntil}
use Rattle.pb_ledger.specs.Journal.{ReplaysAll}
use Rattle.pb_ledger.specs.Change.{Puts}
use Rattle.pb_ledger.specs.declared.collecting.Totals.{Totals}
use Rattle.pb_commands.specs.Runs.{Change, EndStates, IsSame, JournalStates, MakesBook, JournalRun}
use Rattle.pb_commands.specs.Runs.{MakesLedger, TakesJournaled}
use Rattle.pb_commands.specs.JournalHeadline.{HasHeadlineOfJournal, LosesNone, LosesNoneLater}
use Rattle.pb_commands.specs.JournalHeadline.{Survives}
use Rattle.pb_commands.specs.declared.run.Intake.{Intake}
use Rattle.pb_commands.proofs.JournalGains.{Replayed, replayed}
use Rattle.pb_commands.proofs.JournalHeadlines.{has_headline}
use Rattle.pb_commands.proofs.JournalSurvives.{HoldsBy, Safe, stream_survives, until_survives}
use Rattle.pb_accepted.specs.Ledger.{KeepsRest}

module _ (rules : CountingRules) (fills : ℕ) (e : EndStates) (j : JournalStates) where
  -- from the games of the journal on the submissions were taken so
  module _ (randoms : List ℕ) (held : LedgerState) (mended : SinkState) (replays : ReplaysAll fills j.kept (from_to j.journal.old mended) (from_to (new_ledger rules randoms most_games) held))
      (like : held ≡ record (new_ledger rules randoms most_games) { accepted = held.accepted }) where
    abbrev all : Replayed fills j.kept (from_to j.journal.old mended) (from_to (new_ledger rules randoms most_games) held)
    all = replayed fills j.kept (from_to j.journal.old mended) (from_to (new_ledger rules randoms most_games) held) replays

    abbrev Took : LedgerState → Result Totals Fault → Type 0
    Took left end = TakesJournaled fills e.lines e.replies (from_to mended j.journal.new) held (record { ledger = left; end = end })

    made_so : (left : LedgerState) (end : Result Totals Fault) (entries : List Entry) → ReadsTable fills e.table.old e.table.new (Ok randoms) → Took left end
        → MakesBook (record { ledger = left; end = end }) (Ok entries) → HasHeadlineOfJournal rules e j entries (book_bytes entries)
    made_so left (Ok totals) entries read (takes, gains) (book, bounds) =
        has_headline rules fills e j randoms held left mended totals entries read all like takes gains book bounds
    made_so left (Err fault) entries read takes is = absurd (cc is)

    safe_so : (left : LedgerState) (end : Result Totals Fault) → Took left end → IsSame e.lines ⊎ Safe e j all.came
    safe_so left (Ok totals) (takes, gains) = stream_survives rules fills e j randoms mended held all like left totals takes gains
    safe_so left (Err fault) until = until_survives rules fills e j randoms mended held all like left fault until

  abbrev Replays : SinkState → LedgerState → LedgerState → Type 0
  Replays mended held new = ReplaysAll fills j.kept (from_to j.journal.old mended) (from_to new held)

  abbrev Like : LedgerState → LedgerState → Type 0
  Like held new = held ≡ record new { accepted = held.accepted }

  pub headline : (taken : Intake) → JournalRun rules fills e j (Ok taken) → (entries : List Entry) → MakesBook taken (Ok entries) → HasHeadlineOfJournal rules e j entries (book_bytes entries)
  headline taken (new, held, (randoms, read, counting, is), mended, replays, like, takes) entries made =
      made_so randoms held mended (subst (Replays mended held) is replays) (subst (Like held) is like) taken.ledger taken.end entries read takes made

  -- from the games of a journal on the submissions were taken so
  took_so : (replies journal : Change SinkState) (held left : LedgerState) (end : Result Totals Fault)
      → IfOk end (λ totals. CollectsStream fills e.lines replies (from_to held left) totals × Gains journal (from_to held left)) → IfErr end (JournalsUntil fills e.lines replies journal (from_to held left))
      → TakesJournaled fills e.lines replies journal held (record { ledger = left; end = end })
  took_so replies journal held left (Ok totals) took broke = took
  took_so replies journal held left (Err fault) took broke = broke

  pub journaled : (mid mended : SinkState) (new held left : LedgerState) (end : Result Totals Fault) → MakesLedger rules fills e.table new → mid ≡ e.replies.old → Replays mended held new → KeepsRest new held
      → IfOk end (λ totals. CollectsStream fills e.lines (record e.replies { old = mid }) (from_to held left) totals × Gains (from_to mended j.journal.new) (from_to held left))
      → IfErr end (JournalsUntil fills e.lines (record e.replies { old = mid }) (from_to mended j.journal.new) (from_to held left))
      → JournalRun rules fills e j (Ok (record { ledger = left; end = end }))
  journaled mid mended new held left end opens same replays rest all broke = (
    new,
    held,
    opens,
    mended,
    replays,
    rest,
    subst (λ (m : SinkState). TakesJournaled fills e.lines (record e.replies { old = m }) (from_to mended j.journal.new) held (record { ledger = left; end = end })) same
        (took_so (record e.replies { old = mid }) (from_to mended j.journal.new) held left end all broke),
  )

  -- ---- no game is lost

  -- no submission was read, or the journal was read to its end, and this is so of its bytes
  abbrev Unless : (List ℕ → Type 0) → Type 0
  Unless P = IsSame e.lines ⊎ ((kept : List ℕ) × HandsOut j.kept.old j.kept.new kept × P kept)

  read_to_end : {journal : SinkState} {old held : LedgerState} (replays : Replayed fills j.kept (from_to j.journal.old journal) (from_to old held))
      → IsSame e.lines ⊎ Safe e j replays.came → Unless (Safe e j)
  read_to_end replays (inl unread) = inl unread
  read_to_end replays (inr h) = inr (replays.came, handed_out _ _ _ _ _ replays.reads, h)

  so : (gains : List ℕ → Type 0) → ((kept : List ℕ) → Safe e j kept → HoldsBy e kept gains) → Unless (Safe e j) → Survives gains e j.kept
  so gains follows (inl unread) = inl unread
  so gains follows (inr (kept, handed, safe)) = let h = follows kept safe in inr (kept, h.0, handed, h.1, h.2)

  is_safe : (taken : Intake) → JournalRun rules fills e j (Ok taken) → Unless (Safe e j)
  is_safe taken (new, held, (randoms, read, counting, is), mended, replays, like, takes) =
      let replays = subst (Replays mended held) is replays in
      read_to_end (replayed fills j.kept (from_to j.journal.old mended) (from_to (new_ledger rules randoms most_games) held) replays)
      (safe_so randoms held mended replays (subst (Like held) is like) taken.ledger taken.end takes)

  pub survives : (taken : Intake) → JournalRun rules fills e j (Ok taken) → LosesNone e j
  survives taken run = so (Puts j.journal) (λ kept safe. safe.0) (is_safe taken run)

  pub outlives : (taken : Intake) → JournalRun rules fills e j (Ok taken) → LosesNoneLater e j
  outlives taken run all = so (across LastsFirst j.journal) (λ kept safe. safe.1 all) (is_safe taken run)
