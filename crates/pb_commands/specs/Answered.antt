-- The theorem of `pbook collect` with the answers that its replies say: the laws of ledgers speak
-- of answers.
use Rattle.std.specs.Prelude.{◌≡◌, ℕ, List, [], Result}
use Rattle.pb_io.specs.Lines.{lines}
use Rattle.pb_poly.specs.Book.{book_bytes}
use Rattle.pb_poly.specs.declared.book.Entry.{Entry}
use Rattle.pb_games.specs.Submissions.{Submission}
use Rattle.pb_accepted.specs.Accepting.{Answer, Run}
use Rattle.pb_accepted.specs.Replying.{most_games}
use Rattle.pb_accepted.specs.Accepting.{reply_texts}
use Rattle.pb_accepted.specs.Rules.{CountingRules}
use Rattle.pb_commands.specs.Runs.{EndStates, Headed, CollectRun}
use Rattle.pb_commands.specs.Headline.{HasHeadline}
use Rattle.pb_commands.specs.declared.stop.Stopped.{Stopped}
use Rattle.pb_commands.specs.declared.run.Intake.{Intake}

-- the replies R to lines L say answers, by which these games came to be held
pub record SayAnswers (L R : List (List ℕ)) (games : List Submission) : Type 0 where
  pub answers : List Answer
  pub said : R ≡ reply_texts L answers
  pub run : Run most_games [] L answers games

-- the theorem, and the answers that its replies say
abbrev pub IsAnswered : CountingRules → EndStates → List Entry → List ℕ → Type 0
IsAnswered rules e entries book = (h : HasHeadline rules e entries book)
    × SayAnswers (lines h.0.line_bytes) h.1.replies h.1.games

-- how a run of `collect` ends, with the theorem where it took submissions
abbrev pub CollectTheorem : CountingRules → ℕ → EndStates → Result Intake Stopped → Type 0
CollectTheorem rules fills e = Headed (CollectRun rules fills e)
    (λ _ entries. IsAnswered rules e entries (book_bytes entries))
