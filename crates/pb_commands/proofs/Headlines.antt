-- The theorem of `pbook collect`, from what a run does.
use Rattle.std.proofs.Common.{◌≡◌, ℕ, List, [], All, Result, Ok, Err, refl, subst, sym}
use Rattle.pb_io.specs.Lines.{lines}
use Rattle.pb_io.specs.Sink.{SinkState}
use Rattle.pb_poly.proofs.EntryBytes.{book_is_one}
use Rattle.pb_poly.proofs.ToldReads.{handed_out}
use Rattle.pb_poly.specs.Book.{BookBytes, book_bytes}
use Rattle.pb_poly.specs.Entry.{IsEntry}
use Rattle.pb_poly.specs.declared.book.Entry.{Entry}
use Rattle.pb_poly.proofs.Told.{found_table}
use Rattle.pb_poly.specs.TableReading.{ReadsTable}
use Rattle.pb_games.specs.Submissions.{Submission}
use Rattle.pb_accepted.specs.Accepting.{Answer, Run}
use Rattle.pb_accepted.specs.Rules.{Basis}
use Rattle.pb_accepted.specs.Counting.{IsBook, counted}
use Rattle.pb_accepted.specs.Replying.{most_games}
use Rattle.pb_accepted.specs.Ledger.{LedgerState, new_ledger}
use Rattle.pb_accepted.specs.Accepting.{replies, reply_texts}
use Rattle.pb_accepted.specs.Rules.{AreRules, CountingRules}
use Rattle.pb_accepted.proofs.BookLaws.{one_book}
use Rattle.pb_accepted.proofs.Replyings.{replies_are, replies_number, run_to}
use Rattle.pb_io.specs.declared.fault.Fault.{Fault}
use Rattle.pb_ledger.specs.Collecting.{CollectsStream}
use Rattle.pb_ledger.specs.declared.collecting.Totals.{Totals}
use Rattle.pb_ledger.specs.Change.{from_to}
use Rattle.pb_commands.specs.Runs.{EndStates, MakesBook, CollectRun, MakesLedger, Takes}
use Rattle.pb_commands.specs.Answered.{IsAnswered}
use Rattle.pb_commands.specs.Headline.{Effect}
use Rattle.pb_commands.specs.declared.run.Intake.{Intake}

-- the effect of lines that were answered as a ledger answers them, wherever they came from
pub effect : (L : List (List ℕ)) (R : List Answer) (games : List Submission) → Run most_games [] L R games
    → (T : Basis) (entries : List Entry) → All IsEntry entries → IsBook (counted T games) T.rules.least entries → Effect T L (reply_texts L R) games entries (book_bytes entries)
effect L R games run T entries bounds book = record {
  run = run_to most_games [] L R games run;
  numbered = replies_number L R games run;
  is_book = λ others. (
    λ is. one_book (counted T games) T.rules.least others entries is book,
    λ same. subst (IsBook (counted T games) T.rules.least) (sym same) book,
  );
  bytes = λ others.
      let own : BookBytes entries (book_bytes entries) = record { bounds = bounds; are = refl } in (
        λ other. book_is_one others entries (book_bytes entries) other own,
        λ same. subst (λ (E : List Entry). BookBytes E (book_bytes entries)) (sym same) own,
      );
}

module _ (rules : CountingRules) (fills : ℕ) (e : EndStates) where
  has_headline : (randoms : List ℕ) (left : LedgerState) (totals : Totals) (entries : List Entry) → ReadsTable fills e.table.old e.table.new (Ok randoms) → AreRules rules
      → CollectsStream fills e.lines e.replies (from_to (new_ledger rules randoms most_games) left) totals → IsBook (counted left.basis left.accepted) left.basis.rules.least entries → All IsEntry entries
      → IsAnswered rules e entries (book_bytes entries)
  has_headline randoms left totals entries read counting takes book bounds =
      let table = found_table fills e.table.old e.table.new randoms read in
      let took = takes.0 in
      let collects = took.done.collects in
      let bytes = took.came in
      let T : Basis = record { randoms = randoms; rules = rules } in (
        (
          record {
            table_bytes = table.0;
            line_bytes = bytes;
            reply_bytes = replies (lines bytes) collects.answers;
            table = handed_out _ _ _ _ _ table.1;
            lines = handed_out _ _ _ _ _ took.reads;
            replies = collects.put;
          },
          record {
            counting = counting;
            randoms = randoms;
            table = table.2;
            replies = reply_texts (lines bytes) collects.answers;
            games = left.accepted;
            effect = effect (lines bytes) collects.answers left.accepted collects.leads.run T entries bounds
                (subst (λ (X : Basis). IsBook (counted X left.accepted) X.rules.least entries) collects.leads.basis book);
            replied = replies_are (lines bytes) collects.answers;
          },
        ),
        record { answers = collects.answers; said = refl; run = collects.leads.run },
      )

  by_end : (randoms : List ℕ) (left : LedgerState) (end : Result Totals Fault) (entries : List Entry) → ReadsTable fills e.table.old e.table.new (Ok randoms) → AreRules rules
      → Takes fills e.lines e.replies (new_ledger rules randoms most_games) (record { ledger = left; end = end }) → MakesBook (record { ledger = left; end = end }) (Ok entries)
      → IsAnswered rules e entries (book_bytes entries)
  by_end randoms left (Ok totals) entries read counting takes (book, bounds) = has_headline randoms left totals entries read counting takes book bounds
  by_end randoms left (Err fault) entries read counting takes is = absurd (cc is)

  pub headline : (taken : Intake) → CollectRun rules fills e (Ok taken) → (entries : List Entry) → MakesBook taken (Ok entries) → IsAnswered rules e entries (book_bytes entries)
  headline taken (new, (randoms, read, counting, is), takes) entries made =
      by_end randoms taken.ledger taken.end entries read counting (subst (λ (l : LedgerState). Takes fills e.lines e.replies l taken) is takes) made

  -- from the games of a table on the submissions were taken so
  pub collected : (mid : SinkState) (new : LedgerState) (taken : Intake) → MakesLedger rules fills e.table new → mid ≡ e.replies.old → Takes fills e.lines (record e.replies { old = mid }) new taken
      → CollectRun rules fills e (Ok taken)
  collected mid new taken opens same takes = (new, opens, subst (λ (m : SinkState). Takes fills e.lines (record e.replies { old = m }) new taken) same takes)
