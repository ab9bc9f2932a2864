-- The theorem of a run of `collect` that goes on from games that are held first, for the bytes of a
-- table file and of submissions, and of the saved ledger that has these games.
use Rattle.std.specs.Prelude.{◌≡◌, ℕ, List, [], ◌++◌, Result}
use Rattle.pb_io.specs.Lines.{lines}
use Rattle.pb_io.specs.Source.{HandsOut, SourceState}
use Rattle.pb_poly.specs.Table.{IsTableFile}
use Rattle.pb_poly.specs.Book.{book_bytes}
use Rattle.pb_poly.specs.declared.book.Entry.{Entry}
use Rattle.pb_games.specs.Submissions.{Submission}
use Rattle.pb_accepted.specs.Accepting.{Answer, Run}
use Rattle.pb_accepted.specs.Replying.{most_games}
use Rattle.pb_accepted.specs.Ledger.{LedgerState, new_ledger}
use Rattle.pb_accepted.specs.Accepting.{replies, reply_texts}
use Rattle.pb_accepted.specs.Rules.{CountingRules}
use Rattle.pb_ledger.specs.Change.{across}
use Rattle.pb_ledger.specs.Saving.{Loads}
use Rattle.pb_commands.specs.Runs.{Change, EndStates, Headed, ContinueRun}
use Rattle.pb_commands.specs.Headline.{Effect, EndBytes}
use Rattle.pb_commands.specs.declared.stop.Stopped.{Stopped}
use Rattle.pb_commands.specs.declared.run.Intake.{Intake}

-- From games that were held first the lines of the submissions were answered, which left games, and
-- the replies were put in order.
pub record GoesOn (rules : CountingRules) (e : EndStates) (held games : List Submission)
    (entries : List Entry) (book : List ℕ) : Type 0 where
  pub at : EndBytes e
  pub randoms : List ℕ
  pub table : IsTableFile randoms at.table_bytes
  pub answers : List Answer
  pub run : Run most_games held (lines at.line_bytes) answers games
  pub replied : at.reply_bytes ≡ replies (lines at.line_bytes) answers
  -- Whatever earlier run left the games that were held first, of lines K with answers Q: the effect
  -- is that of one run of the lines of both. So the book is that of the games that were answered
  -- `ok` in both, each of them once.
  pub effect : (K : List (List ℕ)) (Q : List Answer) → Run most_games [] K Q held
      → Effect (record { randoms = randoms; rules = rules }) (K ++ lines at.line_bytes)
      (reply_texts (K ++ lines at.line_bytes) (Q ++ answers)) games entries book

-- The games of the saved ledger, of which its source handed out all bytes, were held first, and
-- this ledger is left.
pub record HasHeadlineOfBoth (rules : CountingRules) (e : EndStates) (source : Change SourceState)
    (left : LedgerState) (entries : List Entry) (book : List ℕ) : Type 0 where
  pub saved : List ℕ
  pub handed : across HandsOut source saved
  pub held : List Submission
  pub loads : Loads most_games (lines saved) held
  pub goes_on : GoesOn rules e held left.accepted entries book
  pub is : left ≡ record (new_ledger rules goes_on.randoms most_games) { accepted = left.accepted }

-- how such a run ends, with the theorem where it took submissions
abbrev pub ContinueTheorem : CountingRules → ℕ → EndStates → Change SourceState
    → Result Intake Stopped → Type 0
ContinueTheorem rules fills e source = Headed (ContinueRun rules fills e source)
    (λ left entries. HasHeadlineOfBoth rules e source left entries (book_bytes entries))
