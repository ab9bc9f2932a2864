-- The theorem of a run of `collect` with a journal, for the bytes of a table file, of the journal
-- and of submissions, which three sources handed out, and of the book. A list is counted from 0.
use Rattle.std.specs.Prelude.{◌≡◌, ◌⊎◌, ℕ, List, ◌++◌, Some, Ok, Result, slice_get, take}
use Rattle.pb_io.specs.Lines.{lines}
use Rattle.pb_io.specs.Sink.{AllLasts, LastsFirst}
use Rattle.pb_io.specs.Source.{HandsOut, SourceState}
use Rattle.pb_poly.specs.Book.{book_bytes}
use Rattle.pb_poly.specs.declared.book.Entry.{Entry}
use Rattle.pb_games.specs.Submissions.{Submission}
use Rattle.pb_accepted.specs.Accepting.{Answer}
use Rattle.pb_accepted.specs.Replying.{Arrives, IsNumber, most_games}
use Rattle.pb_accepted.specs.Accepting.{replies}
use Rattle.pb_accepted.specs.Rules.{CountingRules}
use Rattle.pb_ledger.specs.Change.{across}
use Rattle.pb_ledger.specs.Journal.{GameLines, Journals, mending}
use Rattle.pb_ledger.specs.Change.{Puts}
use Rattle.pb_commands.specs.ContinueHeadline.{GoesOn}
use Rattle.pb_commands.specs.Runs.{Change, EndStates, IsSame, JournalStates, Headed, JournalRun}
use Rattle.pb_commands.specs.declared.stop.Stopped.{Stopped}
use Rattle.pb_commands.specs.declared.run.Intake.{Intake}

-- The games of the journal, of which its source handed out all bytes, were held first: its own
-- lines left them. The journal was mended and gained the line of each new game in order, so that it
-- now holds all games.
pub record HasHeadlineOfJournal (rules : CountingRules) (e : EndStates) (j : JournalStates)
    (entries : List Entry) (book : List ℕ) : Type 0 where
  pub kept : List ℕ
  pub handed : across HandsOut j.kept kept
  pub held : List Submission
  pub holds : Journals most_games kept held
  pub new : List Submission
  pub goes_on : GoesOn rules e held (held ++ new) entries book
  pub text : List ℕ
  pub are : GameLines new text
  pub gains : Puts j.journal (mending kept ++ text)
  pub holds_all : Journals most_games (kept ++ mending kept ++ text) (held ++ new)

-- how such a run ends, with the theorem where it took submissions
abbrev pub JournalTheorem : CountingRules → ℕ → EndStates → JournalStates → Result Intake Stopped
    → Type 0
JournalTheorem rules fills e j = Headed (JournalRun rules fills e j)
    (λ _ entries. HasHeadlineOfJournal rules e j entries (book_bytes entries))

-- A journal of these bytes holds all that was acknowledged: of these lines, the first of what was
-- handed out of the submissions, a front of the replies was put, and each game that one of them
-- calls `ok` stands under its number in the games of the journal.
pub record HoldsAnswered (journal : List ℕ) (e : EndStates) : Type 0 where
  pub bytes : List ℕ
  pub handed : e.lines.new.handed ≡ e.lines.old.handed ++ bytes
  pub first : List (List ℕ)
  pub later : List (List ℕ)
  pub are : lines bytes ≡ first ++ later
  pub answers : List Answer
  pub count : ℕ
  pub replied : Puts e.replies (take count (replies first answers))
  pub games : List Submission
  pub holds : Journals most_games journal games
  pub has : (i n : ℕ) → slice_get answers i ≡ Some (Ok n)
      → (g : Submission) × Arrives first i g × IsNumber games n g

-- However the run ends: no submission was read, or the journal, of which its source handed out
-- these bytes, holds all that was acknowledged with what it so gained.
abbrev pub Survives : (List ℕ → Type 0) → EndStates → Change SourceState → Type 0
Survives gains e source = IsSame e.lines
    ⊎ ((kept : List ℕ) × (gained : List ℕ) × across HandsOut source kept × gains gained
    × HoldsAnswered (kept ++ gained) e)

-- no acknowledged game is lost: those bytes were put
abbrev pub LosesNone : EndStates → JournalStates → Type 0
LosesNone e j = Survives (Puts j.journal) e j.kept

-- nor is one lost whatever ends the run, where what the journal had before lasts: they last first
abbrev pub LosesNoneLater : EndStates → JournalStates → Type 0
LosesNoneLater e j =
    AllLasts j.journal.old → Survives (across LastsFirst j.journal) e j.kept
