-- The theorem of a run that goes on from games that are held first, from what it does.
use Rattle.std.proofs.Common.{◌≡◌, ◌∙◌, ℕ, List, [], ◌++◌, All, Result, Ok, Err, ap, refl, subst}
use Rattle.std.proofs.Common.{sym}
use Rattle.pb_io.specs.Lines.{lines}
use Rattle.pb_io.specs.LineTask.{AtEnd}
use Rattle.pb_io.specs.declared.fault.Fault.{Fault}
use Rattle.pb_io.specs.Sink.{SinkState}
use Rattle.pb_io.specs.Source.{SourceState}
use Rattle.pb_poly.proofs.ToldReads.{handed_out}
use Rattle.pb_poly.specs.Book.{book_bytes}
use Rattle.pb_poly.specs.Entry.{IsEntry}
use Rattle.pb_poly.specs.declared.book.Entry.{Entry}
use Rattle.pb_poly.proofs.Told.{found_table}
use Rattle.pb_poly.specs.TableReading.{ReadsTable}
use Rattle.pb_games.specs.Submissions.{Submission}
use Rattle.pb_accepted.specs.Rules.{Basis}
use Rattle.pb_accepted.specs.Counting.{IsBook, counted}
use Rattle.pb_accepted.specs.Replying.{most_games}
use Rattle.pb_accepted.specs.Ledger.{LedgerState, new_ledger}
use Rattle.pb_accepted.specs.Accepting.{replies}
use Rattle.pb_accepted.specs.Rules.{CountingRules}
use Rattle.pb_accepted.proofs.Steps.{runs_join}
use Rattle.pb_accepted.specs.Accepting.{Answer, Run}
use Rattle.pb_ledger.proofs.SavedLoading.{continued, loaded_back}
use Rattle.pb_ledger.specs.Change.{from_to, across}
use Rattle.pb_ledger.specs.Collecting.{CollectsStream}
use Rattle.pb_ledger.specs.Saving.{Loads}
use Rattle.pb_ledger.specs.Change.{Makes}
use Rattle.pb_ledger.specs.declared.collecting.Totals.{Totals}
use Rattle.pb_ledger.specs.Saving.{Saved}
use Rattle.pb_commands.specs.ContinueHeadline.{GoesOn, HasHeadlineOfBoth}
use Rattle.pb_commands.specs.Runs.{Change, EndStates, MakesBook, ContinueRun, HoldsSaved, Takes}
use Rattle.pb_commands.specs.declared.run.Intake.{Intake}
use Rattle.pb_commands.proofs.Headlines.{effect}
use Rattle.pb_commands.proofs.Taking.{same_but_games}

module _ (rules : CountingRules) (fills : ℕ) (e : EndStates) (randoms : List ℕ) (held : List Submission) (left : LedgerState) (totals : Totals) (entries : List Entry)
    (read : ReadsTable fills e.table.old e.table.new (Ok randoms)) (takes : CollectsStream fills e.lines e.replies (from_to (record (new_ledger rules randoms most_games) { accepted = held }) left) totals)
    (book : IsBook (counted left.basis left.accepted) left.basis.rules.least entries) (bounds : All IsEntry entries) where
  pub goes_on : GoesOn rules e held left.accepted entries (book_bytes entries)
  goes_on =
      let took = takes.0 in
      let collects = took.done.collects in
      let leads = collects.leads in
      let table = found_table fills e.table.old e.table.new randoms read in
      let T : Basis = record { randoms = randoms; rules = rules } in
      record {
        at = record {
          table_bytes = table.0;
          line_bytes = took.came;
          reply_bytes = replies (lines took.came) collects.answers;
          table = handed_out _ _ _ _ _ table.1;
          lines = handed_out _ _ _ _ _ took.reads;
          replies = collects.put;
        };
        randoms = randoms;
        table = table.2;
        answers = collects.answers;
        run = leads.run;
        replied = refl;
        effect = λ K Q run.
            effect (K ++ lines took.came) (Q ++ collects.answers) left.accepted (runs_join most_games [] held left.accepted K (lines took.came) Q collects.answers run leads.run) T entries bounds
            (subst (λ (X : Basis). IsBook (counted X left.accepted) X.rules.least entries) leads.basis book);
      }

  has_headline : (source : Change SourceState) → across (AtEnd fills) source (λ ls. Loads most_games ls held)
      → HasHeadlineOfBoth rules e source left entries (book_bytes entries)
  unfolding goes_on
  has_headline source loads =
      let leads = takes.0.done.collects.leads in
      record {
        saved = loads.came;
        handed = handed_out _ _ _ _ _ loads.reads;
        held = held;
        loads = loads.done;
        goes_on = goes_on;
        is = same_but_games (new_ledger rules randoms most_games) left leads.basis leads.cap;
      }

module _ (rules : CountingRules) (fills : ℕ) (e : EndStates) (source : Change SourceState) where
  by_end : (randoms : List ℕ) (held left : LedgerState) (end : Result Totals Fault) (entries : List Entry) → ReadsTable fills e.table.old e.table.new (Ok randoms)
      → across (AtEnd fills) source (Makes Loads (from_to (new_ledger rules randoms most_games) held)) → held ≡ record (new_ledger rules randoms most_games) { accepted = held.accepted }
      → Takes fills e.lines e.replies held (record { ledger = left; end = end }) → MakesBook (record { ledger = left; end = end }) (Ok entries)
      → HasHeadlineOfBoth rules e source left entries (book_bytes entries)
  by_end randoms held left (Ok totals) entries read loads like takes (book, bounds) =
      has_headline rules fills e randoms held.accepted left totals entries read (subst (λ (l : LedgerState). CollectsStream fills e.lines e.replies (from_to l left) totals) like takes) book bounds source loads
  by_end randoms held left (Err fault) entries read loads like takes is = absurd (cc is)

  pub headline : (taken : Intake) → ContinueRun rules fills e source (Ok taken) → (entries : List Entry) → MakesBook taken (Ok entries)
      → HasHeadlineOfBoth rules e source taken.ledger entries (book_bytes entries)
  headline taken (held, (new, (randoms, read, counting, is), loads, like), takes) entries made =
      by_end randoms held taken.ledger taken.end entries read (subst (λ (l : LedgerState). across (AtEnd fills) source (Makes Loads (from_to l held))) is loads)
      (subst (λ (l : LedgerState). held ≡ record l { accepted = held.accepted }) is like) takes made

  -- from the games of a saved ledger on the submissions were taken so
  pub continued_so : (mid : SinkState) (held : LedgerState) (taken : Intake) → HoldsSaved rules fills e.table source held → mid ≡ e.replies.old
      → Takes fills e.lines (record e.replies { old = mid }) held taken → ContinueRun rules fills e source (Ok taken)
  continued_so mid held taken holds same takes = (held, holds, subst (λ (m : SinkState). Takes fills e.lines (record e.replies { old = m }) held taken) same takes)

-- ---- what an earlier run saved

pub goes_on_as_one_run : (rules : CountingRules) (e : EndStates) (source : Change SourceState) (left : LedgerState) (entries : List Entry) (book : List ℕ) (h : HasHeadlineOfBoth rules e source left entries book) (K : List (List ℕ)) (Q : List Answer) (A : List Submission) → Run most_games [] K Q A → Saved A h.saved → (h.held ≡ A) × (replies (K ++ lines h.goes_on.at.line_bytes) (Q ++ h.goes_on.answers) ≡ replies K Q ++ h.goes_on.at.reply_bytes)
goes_on_as_one_run rules e source left entries book h K Q A run is_saved =
    let on = h.goes_on in
    let one = continued most_games K (lines on.at.line_bytes) Q on.answers A h.held left.accepted h.saved run is_saved h.loads on.run in
    (loaded_back most_games K Q A h.held h.saved run is_saved h.loads, one.1 ∙ ap (λ l. replies K Q ++ l) (sym on.replied))
