-- How a run stops at its inputs, and how it takes submissions.
use Rattle.std.proofs.Common.{◌≡◌, ◌∙◌, ℕ, List, None, Some, Result, Ok, Err, ap, false, inl, inr}
use Rattle.std.proofs.Common.{refl, subst, sym}
use Rattle.std.specs.Prelude.{⊤, IfErr, IfOk, IsErrAnd, MatchResult}
use Rattle.pb_io.specs.Sink.{SinkState}
use Rattle.pb_io.specs.Source.{SourceState}
use Rattle.pb_io.specs.declared.fault.Fault.{Fault}
use Rattle.pb_io.specs.declared.fault.Fault.TheVariants.{Memory}
use Rattle.pb_io.specs.declared.fault.ReadFault.TheVariants as of_read
use Rattle.pb_poly.proofs.Told.{found_table}
use Rattle.pb_poly.specs.Streams.{at_end}
use Rattle.pb_poly.specs.TableReading.{ReadsTable}
use Rattle.pb_poly.specs.declared.table.TableFault.TheVariants as table
use Rattle.pb_accepted.specs.Rules.{Basis}
use Rattle.pb_accepted.specs.Ledger.{LedgerState}
use Rattle.pb_ledger.specs.Collecting.{CollectsStream, CollectsUntil}
use Rattle.pb_ledger.specs.Collecting.{Gains, JournalsUntil}
use Rattle.pb_ledger.specs.declared.collecting.Totals.{Totals}
use Rattle.pb_commands.specs.Judged.{Accepts, unless_refused}
use Rattle.pb_commands.specs.declared.stop.Refused.{Refused}
use Rattle.pb_commands.specs.declared.stop.Refused.TheVariants.{Table}
use Rattle.pb_commands.specs.declared.stop.Stopped.{Stopped}
use Rattle.pb_commands.specs.declared.stop.Stopped.TheVariants as stopped
use Rattle.pb_commands.specs.Runs.{Change, MakesNoLedger, StopsFor, Takes}

-- a ledger that differs from another one in its games alone
pub same_but_games : (old new : LedgerState) → new.basis ≡ old.basis → new.cap ≡ old.cap → new ≡ record old { accepted = new.accepted }
same_but_games old new basis cap = ap (λ (T : Basis). record new { basis = T }) basis ∙ ap (λ n. record old { cap = n; accepted = new.accepted }) cap

-- ---- refused inputs

-- a reason why there is nothing, told as another
abbrev Told : {X E W : Type 0} → (E → W) → Result X E → Result X W → Type 0
Told tells found judged = MatchResult found (λ x. judged ≡ Ok x) (λ e. IsErrAnd judged (λ why. why ≡ tells e))

abbrev none_for : {X W : Type 0} → W → Result X W
none_for why = Err why

told_why : {X W : Type 0} (judged : Result X W) (why : W) → IsErrAnd judged (λ w. w ≡ why) → judged ≡ none_for why
told_why (Ok x) why h = absurd h
told_why (Err w) why is = ap none_for is

pub found_so : {X E W : Type 0} (tells : E → W) (found : Result X E) (judged : Result X W) (x : X) → Told tells found judged → judged ≡ Ok x → found ≡ Ok x
found_so tells (Ok y) judged x is one = cc (is, one)
found_so tells (Err e) judged x is one = absurd (cc (told_why judged (tells e) is, one))

-- what was judged is refused for this reason
stops_for : {X : Type 0} (judged : Result X Refused) (why : Refused) (old new : SinkState) (stop : Stopped) → judged ≡ none_for why → Accepts judged old new (Err stop)
    → StopsFor why (record { old = old; new = new }) stop
stops_for judged why old new (stopped.Refused told) is (one, shown) = let same : told ≡ why = cc (one, is) in (ap (none_for {X = ⊤}) (sym same), shown)
stops_for judged why old new (stopped.Fault fault) is (other, one, shown) = let same : other ≡ why = cc (one, is) in (other, ap (none_for {X = ⊤}) (sym same), shown)

never_stops : {X : Type 0} (judged : Result X Refused) (x : X) (old new : SinkState) (stop : Stopped) → judged ≡ Ok x → Accepts judged old new (Err stop) → ⊥
never_stops judged x old new (stopped.Refused told) is (one, shown) = cc (one, is)
never_stops judged x old new (stopped.Fault fault) is (other, one, shown) = cc (one, is)

pub stops_told : {X E : Type 0} (tells : E → Refused) (found : Result X E) (judged : Result X Refused) (mid old new : SinkState) → mid ≡ old → (stop : Stopped) → Told tells found judged
    → Accepts judged mid new (Err stop) → (e : E) × (found ≡ Err e) × StopsFor (tells e) (record { old = old; new = new }) stop
stops_told tells (Ok x) judged mid old new same stop is h = absurd (never_stops judged x mid new stop is h)
stops_told tells (Err e) judged mid old new same stop is h =
    (e, refl, subst (λ (m : SinkState). StopsFor (tells e) (record { old = m; new = new }) stop) same (stops_for judged (tells e) mid new stop (told_why judged (tells e) is) h))

-- where there is no memory for the ledger, the bytes are a table
pub no_ledger : (fills : ℕ) (old new : SourceState) (sink sink' : SinkState) (randoms : List ℕ) → ReadsTable fills old new (Ok randoms) → sink' ≡ sink
    → MakesNoLedger fills (record { old = old; new = new }) (record { old = sink; new = sink' }) (stopped.Fault Memory)
no_ledger fills old new sink sink' randoms reads same =
    let read = found_table fills old new randoms reads in (table.Fault of_read.Memory, inl (at_end, read.0, read.1, (randoms, read.2)), (Table (table.Fault of_read.Memory), refl, (refl, same)))

module _ {X : Type 0} where
  pub was_refused : (made : Result X Stopped) → unless_refused made ≡ Ok None → (why : Refused) × (made ≡ Err (stopped.Refused why))
  was_refused (Ok x) is = absurd (cc is)
  was_refused (Err (stopped.Refused why)) is = (why, refl)
  was_refused (Err (stopped.Fault fault)) is = absurd (cc is)

  pub was_made : (made : Result X Stopped) (x : X) → unless_refused made ≡ Ok (Some x) → made ≡ Ok x
  was_made (Ok y) x is = cc is
  was_made (Err (stopped.Refused why)) x is = absurd (cc is)
  was_made (Err (stopped.Fault fault)) x is = absurd (cc is)

  pub had_fault : (made : Result X Stopped) (fault : Fault) → unless_refused made ≡ Err fault → made ≡ Err (stopped.Fault fault)
  had_fault (Ok y) fault is = absurd (cc is)
  had_fault (Err (stopped.Refused why)) fault is = absurd (cc is)
  had_fault (Err (stopped.Fault other)) fault is = cc is

-- ---- submissions

module _ (fills : ℕ) (lines : Change SourceState) (replies journal : Change SinkState) (held left : LedgerState) where
  abbrev ledger : Change LedgerState
  ledger = record { old = held; new = left }

  -- a journal that doesn't fail is none
  without_journal : journal.new.failed ≡ false → (fault : Fault) → JournalsUntil fills lines replies journal ledger fault → CollectsUntil fills lines replies ledger fault
  without_journal works fault (inl h) = h.0
  without_journal works fault (inr (is, inl at, awaits)) = absurd (cc (sym works ∙ at.done.done.unkept.breaks.failed))
  without_journal works fault (inr (is, inr at, awaits)) = absurd (cc (sym works ∙ at.done.done.unkept.breaks.failed))

  pub takes_so : journal.new.failed ≡ false → (end : Result Totals Fault) → IfOk end (λ totals. CollectsStream fills lines replies ledger totals × Gains journal ledger)
      → IfErr end (JournalsUntil fills lines replies journal ledger) → Takes fills lines replies held (record { ledger = left; end = end })
  takes_so works (Ok totals) (all, gains) broke = all
  takes_so works (Err fault) all broke = without_journal works fault broke
