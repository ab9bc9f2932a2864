-- A journal: the lines of games, each put there before its reply, of which the last line may be
-- torn. How it is replayed, and the lines of games that it or another file of them holds.
use Rattle.std.specs.Prelude.{◌≡◌, ◌≢◌, ℕ, if◌then◌else◌, List, [], ◌∷◌, All, Err, flat_map, map}
use Rattle.std.specs.Prelude.{◌⊎◌, Bool, false, true, Ok, Result, ◌&&◌, ◌==◌, nat_le, ◌++◌, length}
use Rattle.std.specs.Prelude.{take, filter, IfErr}
use Rattle.pb_board.specs.LineEnd.{with_end}
use Rattle.pb_io.specs.Lines.{ended_lines, is_torn, line_limit}
use Rattle.pb_games.specs.Submissions.{Submission, submission_text}
use Rattle.pb_accepted.specs.Accepting.{Answer, Run, Step}
use Rattle.pb_io.specs.LineTask.{AtEndedLine, AtFault, AtNoEnd}
use Rattle.pb_io.specs.Sink.{HandedOnOnce, SinkState, Writes, AwaitsFlush, Put}
use Rattle.pb_io.specs.Source.{SourceState}
use Rattle.pb_io.specs.declared.fault.Fault.{Fault}
use Rattle.pb_io.specs.declared.fault.Fault.TheVariants.{Read, Write, Endless, Memory}
use Rattle.pb_accepted.specs.Ledger.{LedgerState}
use Rattle.pb_ledger.specs.Change.{Change, IsSame, across, AllCame, Makes, Wants, SameLedger}
use Rattle.pb_ledger.specs.Change.{AtLast, Fails, Puts}
use Rattle.pb_games.specs.declared.refusal.Refusal.TheVariants as refusal
use Rattle.pb_ledger.specs.declared.journal.Replayer.{Replayer}
use Rattle.std.specs.Str.{bytes_eq}
use Rattle.std.specs.Str.Lines.{strip_carriage_return}
use Rattle.pb_games.specs.Cuts.{fields_of}
use Rattle.pb_ledger.specs.declared.journal.Picker.{Picker}

-- the text of each game in order, with an LF after each
abbrev pub GameLines : List Submission → List ℕ → Type 0
GameLines G bytes = bytes ≡ flat_map with_end (map submission_text G)

-- these lines, submitted from no games on and none refused for want of memory, leave A
pub record Replays (cap : ℕ) (ls : List (List ℕ)) (A : List Submission) : Type 0 where
  pub answers : List Answer
  pub run : Run cap [] ls answers A
  pub remembered : All (λ r. r ≢ Err refusal.Memory) answers

-- a journal of these bytes holds A: a piece that no LF ended is no line of it
abbrev pub Journals : ℕ → List ℕ → List Submission → Type 0
Journals cap bytes A = Replays cap (ended_lines bytes) A

-- what ends a piece so that it never is a submission: a TAB more than submissions have, and LF
abbrev pub seal : List ℕ
seal = 9 ∷ 9 ∷ 9 ∷ 9 ∷ 10 ∷ []

-- what is put on a journal of these bytes before a new line
abbrev pub mending : List ℕ → List ℕ
mending bytes = if is_torn bytes then seal else []

-- ---- how a replay into a ledger without games ends, over the journal as a source and as a sink

-- all bytes of the journal came, the ledger holds its games, and this is whether its end is torn
abbrev pub HoldsAll : ℕ → Change SourceState → Change LedgerState → Bool → Type 0
HoldsAll fills kept ledger torn = AllCame fills kept
    (λ bytes. Makes Replays ledger (ended_lines bytes) × (torn ≡ is_torn bytes))

-- so it ends well: the journal is as it was, where its end isn't torn; or the end was sealed, and
-- that was handed on
abbrev pub ReplaysAll : ℕ → Change SourceState → Change SinkState → Change LedgerState → Type 0
ReplaysAll fills kept journal ledger = (HoldsAll fills kept ledger false × IsSame journal)
    ⊎ (HoldsAll fills kept ledger true × across (Writes {E = Fault}) journal (Ok tt) seal)

-- how the replay ends with each fault; the journal gains nothing but what seals its torn end
abbrev pub ReplaysUntil : ℕ → Change SourceState → Change SinkState → Change LedgerState → Fault
    → Type 0
ReplaysUntil fills kept journal ledger Read =
    across (AtFault fills) kept (Makes Replays ledger) × IsSame journal
ReplaysUntil fills kept journal ledger Endless =
    across (AtNoEnd fills) kept (Makes Replays ledger) × IsSame journal
ReplaysUntil fills kept journal ledger Write =
    HoldsAll fills kept ledger true × across Writes journal (Err Write) seal
ReplaysUntil fills kept journal ledger Memory = ((IsSame kept × IsSame ledger)
    ⊎ across (AtEndedLine fills) kept (Wants Replays ledger)) × IsSame journal

-- ---- what the replayer does with a line

-- want of memory alone stops the replayer, with `Memory`
abbrev pub Stops : Answer → Result (Unit {0}) Fault → Type 0
Stops answer (Ok x) = answer ≢ Err refusal.Memory
Stops answer (Err fault) = (answer ≡ Err refusal.Memory) × (fault ≡ Memory)

-- the line was submitted
pub record ReplaysGame {T W : Type 0} (s : Replayer T W) (line : List ℕ)
    (result : Result (Unit {0}) Fault) (t : Replayer T W) : Type 0 where
  pub answer : Answer
  pub step : Step s.ledger.now.cap s.ledger.now.accepted line answer t.ledger.now.accepted
  pub stops : Stops answer result
  pub keeps : SameLedger s.ledger t.ledger
  pub whole : t.is_torn ≡ s.is_torn

-- a line that an LF ended was submitted, and one that none ended was noted
pub data ReplaysLine {T W : Type 0} (s : Replayer T W) (line : List ℕ) (is_ended : Bool)
    (result : Result (Unit {0}) Fault) (t : Replayer T W) : Type 0 where
  submits : is_ended ≡ true → ReplaysGame s line result t → ReplaysLine s line is_ended result t
  unended : is_ended ≡ false → result ≡ Ok tt → t ≡ record s { is_torn = true }
      → ReplaysLine s line is_ended result t

-- ---- the lines of games that bytes hold

-- no more than one CR ends the line
abbrev pub has_one_end : List ℕ → Bool
has_one_end line =
    let text = strip_carriage_return line in bytes_eq (strip_carriage_return text) text

-- the line has the shape of a submission: it isn't too long, and has four fields
abbrev pub has_shape : List ℕ → Bool
has_shape line =
    nat_le (length line) line_limit && (has_one_end line && (length (fields_of line) == 4))

-- the lines of that shape in order, each without its CR and with LF
abbrev pub text_of_games : List (List ℕ) → List ℕ
text_of_games ls = flat_map with_end (map strip_carriage_return (filter has_shape ls))

-- what these bytes hold of games: a piece that no LF ended is no line
abbrev pub games_text : List ℕ → List ℕ
games_text bytes = text_of_games (ended_lines bytes)

-- ---- over a source and a sink

-- the games of the lines but the last one were put, and of the last one, which has the shape, a
-- front
abbrev pub PicksButOne : Change SinkState → List (List ℕ) → Type 0
PicksButOne sink = AtLast (λ before line. (has_shape line ≡ true) × (count : ℕ)
    × Puts sink (text_of_games before ++ take count (with_end (strip_carriage_return line))))

-- all bytes came, the games that they hold were put and handed on, once, and this is whether bytes
-- were left behind the last LF
abbrev pub PicksAll : ℕ → Change SourceState → Change SinkState → Bool → Type 0
PicksAll fills source sink torn = AllCame fills source
    (λ bytes. Puts sink (games_text bytes) × (torn ≡ is_torn bytes)) × across HandedOnOnce sink

-- how it ends with each fault: the games of the lines that an LF ended were put and await a flush;
-- or the sink fails, at a line or where all was to be handed on, and nothing was
abbrev pub PicksUntil : ℕ → Change SourceState → Change SinkState → Fault → Type 0
PicksUntil fills source sink Read =
    across (AtFault fills) source (λ ls. Puts sink (text_of_games ls)) × across AwaitsFlush sink
PicksUntil fills source sink Endless =
    across (AtNoEnd fills) source (λ ls. Puts sink (text_of_games ls)) × across AwaitsFlush sink
PicksUntil fills source sink Write = (across (AtEndedLine fills) source (PicksButOne sink)
    ⊎ AllCame fills source (λ bytes. Puts sink (games_text bytes))) × Fails sink
PicksUntil fills source sink Memory = IsSame source × IsSame sink

-- ---- what the picker does with a line

-- a line of a submission's shape that an LF ended was put, which stops the picker where the sink
-- fails; any other was passed over; and one that no LF ended was noted
pub data PicksLine {K W : Type 0} (state : K → SinkState) (s : Picker K W) (line : List ℕ)
    (is_ended : Bool) (result : Result (Unit {0}) Fault) (t : Picker K W) : Type 0 where
  put : is_ended ≡ true → has_shape line ≡ true
      → Put (state s.sink.now) (state t.sink.now) result (with_end (strip_carriage_return line))
      → IfErr result (λ fault. fault ≡ Write) → t.sink.ghost_name ≡ s.sink.ghost_name
      → t.left_out ≡ s.left_out → PicksLine state s line is_ended result t
  passed : is_ended ≡ true → has_shape line ≡ false → result ≡ Ok tt → t.sink ≡ s.sink
      → t.left_out ≡ s.left_out → PicksLine state s line is_ended result t
  unfinished : is_ended ≡ false → result ≡ Ok tt → t.sink ≡ s.sink → t.left_out ≡ true
      → PicksLine state s line is_ended result t
