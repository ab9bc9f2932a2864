-- How a run ends that answers the lines of a stream, over the states of its source and its sink
-- before and after. `shown` tells what each line comes to by its number, from 1.
use Rattle.std.specs.Prelude.{◌≡◌, ℕ, ◌+◌, ◌&&◌, Bool, true, List, [], ◌∷◌, ◌++◌, Ok, Result, Err}
use Rattle.std.specs.Prelude.{◌⊎◌, length}
use Rattle.pb_io.specs.Sink.{HandedOnOnce}
use Rattle.pb_commands.specs.Judged.{Verdict, PutsFrontOfText, PutsText}
use Rattle.pb_io.specs.Sink.{AwaitsFlush, SinkState}
use Rattle.pb_io.specs.declared.fault.Fault.{Fault}
use Rattle.pb_io.specs.declared.fault.Fault.TheVariants.{Write, Memory, Read, Endless}
use Rattle.pb_io.specs.Source.{SourceState}
use Rattle.pb_io.specs.LineTask.{AtEnd, AtFault, AtLine, AtNoEnd}
use Rattle.pb_io.specs.Count.{next_count}
use Rattle.pb_commands.specs.declared.lines.Answering.{Answering}

-- the lines in order, the first of this number
abbrev pub LinesShown : (ℕ → List ℕ → Verdict → Type 0) → ℕ → List (List ℕ) → Verdict → Type 0
LinesShown shown number [] verdict = verdict ≡ Ok (true, [])
LinesShown shown number (line ∷ lines) verdict =
    (taken others : Bool) × (first rest : List ℕ) × shown number line (Ok (taken, first))
    × LinesShown shown (number + 1) lines (Ok (others, rest))
    × (verdict ≡ Ok ((taken && others), first ++ rest))

-- what comes of the line was put and not handed on, or the sink failed, or memory was wanting and
-- nothing was put
abbrev pub PutsOrStops : (Verdict → Type 0) → SinkState → SinkState → Result Bool Fault → Type 0
PutsOrStops judges sink sink' (Ok taken) = PutsText judges sink sink' taken × AwaitsFlush sink sink'
PutsOrStops judges sink sink' (Err Write) = PutsFrontOfText judges sink sink'
PutsOrStops judges sink sink' (Err Memory) = judges (Err Memory) × (sink' ≡ sink)
PutsOrStops judges sink sink' (Err fault) = ⊥

-- what these lines give was put, and not handed on
pub record PutsLines (shown : ℕ → List ℕ → Verdict → Type 0) (sink sink' : SinkState)
    (ls : List (List ℕ)) : Type 0 where
  pub answer : Bool
  pub puts : PutsText (LinesShown shown 1 ls) sink sink' answer
  pub awaits : AwaitsFlush sink sink'

-- the last of these lines may want memory, and what those before it give was put
pub record PutsButLast (shown : ℕ → List ℕ → Verdict → Type 0) (sink sink' : SinkState)
    (ls : List (List ℕ)) : Type 0 where
  pub before : List (List ℕ)
  pub last : List ℕ
  pub are : ls ≡ before ++ last ∷ []
  pub wants : shown (length before + 1) last (Err Memory)
  pub puts : PutsLines shown sink sink' before

-- How a run ends: all lines of the stream gave this answer, and what they give was put and handed
-- on; or a fault came, want of memory before the first fill or at a line.
abbrev pub AnswersOrEnds : (ℕ → List ℕ → Verdict → Type 0) → ℕ → SourceState → SourceState
    → SinkState → SinkState → Result Bool Fault → Type 0
AnswersOrEnds shown fills s s' sink sink' (Ok answer) =
    AtEnd fills s s' (λ ls. PutsText (LinesShown shown 1 ls) sink sink' answer)
    × HandedOnOnce sink sink'
AnswersOrEnds shown fills s s' sink sink' (Err Read) =
    AtFault fills s s' (PutsLines shown sink sink')
AnswersOrEnds shown fills s s' sink sink' (Err Endless) =
    AtNoEnd fills s s' (PutsLines shown sink sink')
AnswersOrEnds shown fills s s' sink sink' (Err Write) =
    AtLine fills s s' (λ ls. PutsFrontOfText (LinesShown shown 1 ls) sink sink')
AnswersOrEnds shown fills s s' sink sink' (Err Memory) =
    ((s' ≡ s) × (sink' ≡ sink)) ⊎ AtLine fills s s' (PutsButLast shown sink sink')

-- ---- one line

-- what comes of a line was put, or a fault came, with the answer over all lines so far
abbrev pub LineCounted : (Verdict → Type 0) → SinkState → SinkState → Bool → Bool
    → Result (Unit {0}) Fault → Type 0
LineCounted judges sink sink' answer answer' (Ok _) =
    (taken : Bool) × PutsOrStops judges sink sink' (Ok taken) × (answer' ≡ (answer && taken))
LineCounted judges sink sink' answer answer' (Err fault) = PutsOrStops judges sink sink' (Err fault)

-- one line is answered, the same sink is lent, and what comes of lines stays
pub record AnswersLine {A K : Type 0} (shows : A → ℕ → List ℕ → Verdict → Type 0)
    (state : K → SinkState) (s : Answering A K) (line : List ℕ) (result : Result (Unit {0}) Fault)
    (t : Answering A K) : Type 0 where
  pub puts : LineCounted (shows s.answerer.now (next_count s.lines) line) (state s.sink.now)
      (state t.sink.now) s.all_taken t.all_taken result
  pub counted : t.lines ≡ next_count s.lines
  pub lent : t.sink.ghost_name ≡ s.sink.ghost_name
  pub same : (number : ℕ) (line : List ℕ) (verdict : Verdict)
      → shows t.answerer.now number line verdict → shows s.answerer.now number line verdict
