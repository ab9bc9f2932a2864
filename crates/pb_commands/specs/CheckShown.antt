-- What the command `check` puts for a line, and whether the line was taken.
use Rattle.std.specs.Prelude.{◌≡◌, ℕ, true, false, List, ◌++◌, Ok, Err, codes, Bool, Result}
use Rattle.pb_board.specs.LineEnd.{with_end}
use Rattle.pb_games.specs.Refusing.{Refuses}
use Rattle.pb_games.specs.Submissions.{Submits, Submission}
use Rattle.pb_games.specs.declared.refusal.Refusal.{Refusal}
use Rattle.pb_accepted.specs.Accepting.{reply_line}
use Rattle.pb_commands.specs.Judged.{Verdict}
use Rattle.pb_io.specs.Source.{SourceState}
use Rattle.pb_io.specs.Sink.{SinkState}
use Rattle.pb_io.specs.declared.fault.Fault.{Fault}
use Rattle.pb_commands.specs.LinesRun.{AnswersOrEnds, LinesShown}

-- `ok` and the id, where the line submits a legal game; else the reply line of the first refusal
-- that is due, as `collect` puts it
pub data CheckShown (line : List ℕ) (verdict : Verdict) : Type 0 where
  legal : (s : Submission) → Submits line s → verdict ≡ Ok (true, with_end (codes "ok " ++ s.0))
      → CheckShown line verdict
  refused : (e : Refusal) → Refuses line e → verdict ≡ Ok (false, reply_line line (Err e))
      → CheckShown line verdict

-- what is put for these lines, and whether none was refused; no line's number counts
abbrev pub ChecksShown : List (List ℕ) → Verdict → Type 0
ChecksShown = LinesShown (λ _. CheckShown) 1

-- how a run ends
abbrev pub ChecksOrEnds : ℕ → SourceState → SourceState → SinkState → SinkState
    → Result Bool Fault → Type 0
ChecksOrEnds = AnswersOrEnds (λ _. CheckShown)
