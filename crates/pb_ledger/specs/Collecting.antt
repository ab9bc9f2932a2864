-- What taking the lines of a stream does to a ledger, a sink and a journal, and how it ends. The
-- line of each new game is on the journal before its reply is put.
use Rattle.std.specs.Prelude.{◌≡◌, ℕ, ◌+◌, ◌⊎◌, List, [], ◌∷◌, ◌++◌, length, take, count_by, is_err}
use Rattle.std.specs.Prelude.{◌≢◌, ◌-◌, ◌^◌, ◌<◌, Ok, Err, Bool, true, false, nat_lt, Result, IfErr}
use Rattle.pb_io.specs.Source.{SourceState}
use Rattle.pb_io.specs.Sink.{AwaitsFlush, HandedOnOnce, SinkState, AllLasts, HandedOn, Writes, Put}
use Rattle.pb_io.specs.LineTask.{AtEnd, AtFault, AtLine, AtNoEnd}
use Rattle.pb_accepted.specs.Accepting.{Answer, Run, replies, reply_line}
use Rattle.pb_accepted.specs.Ledger.{LedgerState}
use Rattle.pb_ledger.specs.Change.{Change, IsSame, across, AtLast, Fails, Puts, between}
use Rattle.pb_ledger.specs.Change.{from_to}
use Rattle.pb_ledger.specs.declared.collecting.Totals.{Totals}
use Rattle.pb_io.specs.declared.fault.Fault.{Fault}
use Rattle.pb_io.specs.declared.fault.Fault.TheVariants.{Read, Write, Endless, Memory}
use Rattle.pb_board.specs.LineEnd.{with_end}
use Rattle.pb_games.specs.Submissions.{Submission, submission_text}
use Rattle.pb_ledger.specs.Journal.{GameLines}
use Rattle.pb_io.specs.Count.{next_count}
use Rattle.pb_ledger.specs.declared.collecting.Collector.{Collector}

-- the answers to these lines lead from one ledger to the other, which has the same basis and cap
pub record Leads (ledger ledger' : LedgerState) (L : List (List ℕ)) (R : List Answer) : Type 0 where
  pub run : Run ledger.cap ledger.accepted L R ledger'.accepted
  pub basis : ledger'.basis ≡ ledger.basis
  pub cap : ledger'.cap ≡ ledger.cap

-- each line was taken, and each reply was put
pub record Collects (sink : Change SinkState) (ledger : Change LedgerState) (L : List (List ℕ))
    : Type 0 where
  pub answers : List Answer
  pub leads : across Leads ledger L answers
  pub put : Puts sink (replies L answers)

-- the same, and these are how many lines they are, and how many answers are new games, repeats and
-- refusals
pub record CollectsCounted (sink : Change SinkState) (ledger : Change LedgerState) (totals : Totals)
    (L : List (List ℕ)) : Type 0 where
  pub collects : Collects sink ledger L
  pub all : totals.lines ≡ length L
  pub refusals : totals.refused ≡ count_by is_err collects.answers
  pub new_games : length ledger.new.accepted ≡ length ledger.old.accepted + totals.new
  pub others : totals.lines ≡ totals.new + totals.repeats + totals.refused

-- each line was taken, the reply to each but the last was put, and a front of the reply to the last
-- one
abbrev pub CollectsButOne : Change SinkState → Change LedgerState → List (List ℕ) → Type 0
CollectsButOne sink ledger = AtLast (λ before line. (answers : List Answer) × (answer : Answer)
    × across Leads ledger (before ++ line ∷ []) (answers ++ answer ∷ []) × (count : ℕ)
    × Puts sink (replies before answers ++ take count (reply_line line answer)))

-- all lines of the stream were taken and counted, and their replies were put and handed on, once
abbrev pub CollectsStream : ℕ → Change SourceState → Change SinkState → Change LedgerState → Totals
    → Type 0
CollectsStream fills source sink ledger totals =
    across (AtEnd fills) source (CollectsCounted sink ledger totals) × across HandedOnOnce sink

-- how collecting ends with each fault: the replies that were put await a flush; or the sink fails,
-- at a reply or where the replies to all lines were to be handed on, and none was
abbrev pub CollectsUntil : ℕ → Change SourceState → Change SinkState → Change LedgerState → Fault
    → Type 0
CollectsUntil fills source sink ledger Read =
    across (AtFault fills) source (Collects sink ledger) × across AwaitsFlush sink
CollectsUntil fills source sink ledger Endless =
    across (AtNoEnd fills) source (Collects sink ledger) × across AwaitsFlush sink
CollectsUntil fills source sink ledger Write =
    (across (AtLine fills) source (CollectsButOne sink ledger)
    ⊎ across (AtEnd fills) source (Collects sink ledger)) × Fails sink
CollectsUntil fills source sink ledger Memory = IsSame source × IsSame sink × IsSame ledger

-- ---- with a journal

-- the new games are on the journal, their lines handed on one by one; where there are none it is as
-- it was
pub record Gains (journal : Change SinkState) (ledger : Change LedgerState) : Type 0 where
  pub new : List Submission
  pub are : ledger.new.accepted ≡ ledger.old.accepted ++ new
  pub text : List ℕ
  pub lines : GameLines new text
  pub put : Puts journal text
  pub untouched : new ≡ [] → IsSame journal
  pub handed_on : new ≢ [] → HandedOn journal.new
  pub all_lasts : AllLasts journal.old → AllLasts journal.new
  -- each game was handed on by itself: by the journal's count of flushes, below its greatest value
  pub each : journal.new.flushes < 2 ^ 64 - 1
      → journal.new.flushes ≡ journal.old.flushes + length new

-- the line brought a game, whose line wasn't written to the journal
pub record Unkept (journal : Change SinkState) (ledger : Change LedgerState) (line : List ℕ)
    : Type 0 where
  pub number : ℕ
  pub leads : across Leads ledger (line ∷ []) (Ok number ∷ [])
  pub game : Submission
  pub brings : ledger.new.accepted ≡ ledger.old.accepted ++ game ∷ []
  pub breaks : across Writes journal (Err Write) (with_end (submission_text game))

-- the lines before this one were taken and answered, and their games are on the journal; then this
-- one brought a game that isn't, and had no reply
pub record CollectsUnkept (sink journal : Change SinkState) (ledger : Change LedgerState)
    (before : List (List ℕ)) (line : List ℕ) : Type 0 where
  pub middle : LedgerState
  pub kept : SinkState
  pub collects : Collects sink (record ledger { new = middle }) before
  pub gains : Gains (record journal { new = kept }) (record ledger { new = middle })
  pub unkept : Unkept (record journal { old = kept }) (record ledger { old = middle }) line

-- how it ends with each fault: as without a journal, and then the new games are on it; or, with
-- `Write`, the journal fails at the game of the last line that was taken
abbrev pub JournalsUntil : ℕ → Change SourceState → Change SinkState → Change SinkState
    → Change LedgerState → Fault → Type 0
JournalsUntil fills source sink journal ledger fault =
    (CollectsUntil fills source sink ledger fault × Gains journal ledger)
    ⊎ ((fault ≡ Write) × across (AtLine fills) source (AtLast (CollectsUnkept sink journal ledger))
    × across AwaitsFlush sink)

-- ---- what the collector does with a line

-- the totals with one more answer, to a line that brought a new game or didn't
abbrev pub with_answer : Totals → Answer → Bool → Totals
with_answer totals (Ok n) true =
    record totals { lines = next_count totals.lines; new = next_count totals.new }
with_answer totals (Ok n) false =
    record totals { lines = next_count totals.lines; repeats = next_count totals.repeats }
with_answer totals (Err e) is_new =
    record totals { lines = next_count totals.lines; refused = next_count totals.refused }

-- the same ledger, sink and journal are lent
pub record SameLent {T K J W : Type 0} (s t : Collector T K J W) : Type 0 where
  pub ledger : t.ledger.ghost_name ≡ s.ledger.ghost_name
  pub sink : t.sink.ghost_name ≡ s.sink.ghost_name
  pub journal : t.journal.ghost_name ≡ s.journal.ghost_name

-- The line was submitted, counted as a new game where the ledger has grown, and its reply put; the
-- game that it brought, if any, is on the journal.
pub record Answered {T K J W : Type 0} (state : K → SinkState) (kept : J → SinkState)
    (s : Collector T K J W) (line : List ℕ) (result : Result (Unit {0}) Fault)
    (t : Collector T K J W) : Type 0 where
  pub answer : Answer
  pub leads : Leads s.ledger.now t.ledger.now (line ∷ []) (answer ∷ [])
  pub counted : t.totals ≡ with_answer s.totals answer
      (nat_lt (length s.ledger.now.accepted) (length t.ledger.now.accepted))
  pub put : Put (state s.sink.now) (state t.sink.now) result (reply_line line answer)
  pub gains : Gains (between kept s.journal.now t.journal.now)
      (from_to s.ledger.now t.ledger.now)

-- the line was answered, and stops the collector where its reply couldn't be put; or the journal
-- didn't take its game, and no reply was put
pub data CollectsLine {T K J W : Type 0} (state : K → SinkState) (kept : J → SinkState)
    (s : Collector T K J W) (line : List ℕ) (result : Result (Unit {0}) Fault)
    (t : Collector T K J W) : Type 0 where
  answered : Answered state kept s line result t → IfErr result (λ fault. fault ≡ Write)
      → SameLent s t → CollectsLine state kept s line result t
  ungained : Unkept (between kept s.journal.now t.journal.now)
      (from_to s.ledger.now t.ledger.now) line → result ≡ Err Write
      → t.sink ≡ s.sink → SameLent s t → CollectsLine state kept s line result t
