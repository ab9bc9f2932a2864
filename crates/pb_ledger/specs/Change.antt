-- What a call changes: the states before and after, of a stream that it reads, of a sink that it
-- puts bytes on, and of a ledger that is lent to it.
use Rattle.std.specs.Prelude.{◌≡◌, ℕ, true, List, [], ◌∷◌, ◌++◌, Err}
use Rattle.std.specs.Io.KnownBytes.{Appends}
use Rattle.pb_io.specs.Source.{ReadsAll, chunk_len, SourceState}
use Rattle.pb_io.specs.Sink.{SinkState}
use Rattle.pb_games.specs.Submissions.{Submission}
use Rattle.pb_games.specs.declared.refusal.Refusal.TheVariants.{Memory}
use Rattle.pb_accepted.specs.Accepting.{Step}
use Rattle.pb_accepted.specs.Ledger.{KeepsRest, LedgerState}
use Rattle.std.specs.Borrow.{MutBor}

-- something before and after
pub record Change (X : Type 0) : Type 0 where
  pub old : X
  pub new : X

abbrev pub from_to : {X : Type 0} → X → X → Change X
from_to old new = record { old = old; new = new }

abbrev pub between : {X Y : Type 0} → (X → Y) → X → X → Change Y
between state old new = record { old = state old; new = state new }

abbrev pub IsSame : {X : Type 0} → Change X → Type 0
IsSame change = change.new ≡ change.old

-- what is said of something before and after, said of the change
abbrev pub across : {X : Type 0} {A : Type 1} → (X → X → A) → Change X → A
across said change = said change.old change.new

-- these bytes were put
abbrev pub Puts : Change SinkState → List ℕ → Type 0
Puts sink bytes = Appends sink.old.bytes sink.new.bytes bytes

-- the sink has failed, and nothing was handed on
abbrev pub Fails : Change SinkState → Type 0
Fails sink = (sink.new.failed ≡ true) × (sink.new.flushes ≡ sink.old.flushes)

-- all bytes of the stream came, and this is so of them
pub record AllCame (fills : ℕ) (source : Change SourceState) (holds : List ℕ → Type 0)
    : Type 0 where
  pub came : List ℕ
  pub reads : across (ReadsAll chunk_len fills) source came
  pub done : holds came

-- this is so of the lines but the last one, and of the last one after them
pub record AtLast (holds : List (List ℕ) → List ℕ → Type 0) (ls : List (List ℕ)) : Type 0 where
  pub before : List (List ℕ)
  pub line : List ℕ
  pub are : ls ≡ before ++ line ∷ []
  pub done : holds before line

-- which games lines make, where at most so many may be held
abbrev pub Way : Type 1
Way = ℕ → List (List ℕ) → List Submission → Type 0

-- in this way the lines make the games that are held at last
abbrev pub Makes : Way → Change LedgerState → List (List ℕ) → Type 0
Makes way ledger ls = way ledger.old.cap ls ledger.new.accepted

-- the lines but the last one do, and the last one brings a new game, for which memory was wanting
abbrev pub Wants : Way → Change LedgerState → List (List ℕ) → Type 0
Wants way ledger = AtLast (λ before line. Makes way ledger before
    × Step ledger.old.cap ledger.new.accepted line (Err Memory) ledger.new.accepted)

-- the same ledger is lent, and all but its games is as it was
pub record SameLedger (s t : MutBor LedgerState) : Type 0 where
  pub lent : t.ghost_name ≡ s.ghost_name
  pub rest : KeepsRest s.now t.now
