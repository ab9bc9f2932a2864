-- The theorem of a run with a journal, from what it does.
use Rattle.std.proofs.Common.{◌≡◌, ℕ, List, All, Ok, subst}
use Rattle.std.proofs.KnownBytes.{Appends-trans}
use Rattle.pb_io.specs.Sink.{SinkState}
use Rattle.pb_io.specs.Lines.{lines}
use Rattle.pb_poly.proofs.ToldReads.{handed_out}
use Rattle.pb_poly.specs.Book.{book_bytes}
use Rattle.pb_poly.specs.Entry.{IsEntry}
use Rattle.pb_poly.specs.TableReading.{ReadsTable}
use Rattle.pb_poly.specs.declared.book.Entry.{Entry}
use Rattle.pb_games.specs.Submissions.{Submission}
use Rattle.pb_accepted.specs.Counting.{IsBook, counted}
use Rattle.pb_accepted.specs.Replying.{most_games}
use Rattle.pb_accepted.specs.Ledger.{LedgerState, new_ledger}
use Rattle.pb_accepted.specs.Rules.{CountingRules}
use Rattle.pb_ledger.specs.Collecting.{CollectsStream}
use Rattle.pb_ledger.specs.Collecting.{Gains}
use Rattle.pb_ledger.specs.Change.{from_to}
use Rattle.pb_ledger.specs.declared.collecting.Totals.{Totals}
use Rattle.pb_commands.specs.ContinueHeadline.{GoesOn}
use Rattle.pb_commands.specs.Runs.{EndStates, JournalStates}
use Rattle.pb_commands.specs.JournalHeadline.{HasHeadlineOfJournal}
use Rattle.pb_commands.proofs.ContinueHeadlines.{goes_on}
use Rattle.pb_commands.proofs.JournalGains.{Replayed, gains_all}

module _ (rules : CountingRules) (fills : ℕ) (e : EndStates) (j : JournalStates) where
  pub has_headline : (randoms : List ℕ) (held left : LedgerState) (mended : SinkState) (totals : Totals) (entries : List Entry) → ReadsTable fills e.table.old e.table.new (Ok randoms)
      → Replayed fills j.kept (from_to j.journal.old mended) (from_to (new_ledger rules randoms most_games) held) → held ≡ record (new_ledger rules randoms most_games) { accepted = held.accepted }
      → CollectsStream fills e.lines e.replies (from_to held left) totals → Gains (from_to mended j.journal.new) (from_to held left) → IsBook (counted left.basis left.accepted) left.basis.rules.least entries
      → All IsEntry entries → HasHeadlineOfJournal rules e j entries (book_bytes entries)
  has_headline randoms held left mended totals entries read replays like takes gains book bounds =
      let takes_on = subst (λ (m : LedgerState). CollectsStream fills e.lines e.replies (from_to m left) totals) like takes in
      let collects = takes_on.0.done.collects in
      let on = goes_on rules fills e randoms held.accepted left totals entries read takes_on book bounds in
      record {
        kept = replays.came;
        handed = handed_out _ _ _ _ _ replays.reads;
        held = held.accepted;
        holds = replays.holds;
        new = gains.new;
        goes_on = subst (λ (games : List Submission). GoesOn rules e held.accepted games entries (book_bytes entries)) gains.are on;
        text = gains.text;
        are = gains.lines;
        gains = Appends-trans _ _ _ _ _ replays.put gains.put;
        holds_all = gains_all most_games replays.came held.accepted left.accepted (lines takes_on.0.came) collects.answers replays.holds collects.leads.run gains.new gains.text gains.are
            gains.lines;
      }
