-- What the command `tree` writes: the moves that a book has for a position, each with its weight
-- and share, and below each those that the book has after it.
use Rattle.std.specs.Prelude.{◌≡◌, ◌⊎◌, ℕ, zero, suc, ◌+◌, ◌*◌, ◌/◌, List, [], ◌∷◌, ◌++◌, codes}
use Rattle.std.specs.Prelude.{IfErr, OnErr, OnOk, Result, decimal, filter, nat_le, sum_by, take}
use Rattle.std.specs.Prelude.{true, Bool}
use Rattle.std.specs.Io.KnownBytes.{Appends}
use Rattle.std.specs.List.{repeat}
pub use Rattle.pb_board.specs.LineEnd.{with_end}
use Rattle.pb_board.specs.Position.{Position}
use Rattle.pb_moves.specs.Moved.{Moved}
use Rattle.pb_moves.specs.Successor.{after}
pub use Rattle.pb_io.specs.Sink.{Put}
use Rattle.pb_io.specs.Sink.{SinkState}
use Rattle.pb_io.specs.declared.fault.Fault.{Fault}
use Rattle.pb_io.specs.declared.fault.Fault.TheVariants.{Write, Memory}
use Rattle.pb_poly.specs.declared.book.Entry.{Entry}
use Rattle.pb_poly.specs.Found.{Found}
use Rattle.pb_io.specs.Sink.{HandedOnOnce}
use Rattle.pb_commands.specs.Judged.{ByInput, AsRecord, record_verdict, StopsOrEnds}
use Rattle.pb_commands.specs.ProbeShown.{found_text, WithSources}
use Rattle.std.specs.Result.{result_map_both}
use Rattle.pb_io.specs.Source.{SourceState}
use Rattle.pb_commands.specs.declared.stop.Stopped.{Stopped}
use Rattle.pb_commands.specs.declared.stop.Stopped.TheVariants as stopped

-- the weights of all these moves together
abbrev pub sum_of_weights : List (Moved × ℕ) → ℕ
sum_of_weights found = sum_by (λ p. p.1) found

-- what per cent of this sum a weight is, rounded down; of nothing it is 0
abbrev pub share : ℕ → ℕ → ℕ
share zero weight = 0
share (suc n) weight = (100 * weight) / suc n

-- a move, its weight, and its share of this sum
abbrev pub branch_text : ℕ → Moved × ℕ → List ℕ
branch_text sum found =
    found_text found ++ (codes " " ++ (decimal (share sum found.1) ++ codes "%"))

-- the line of a move that stands so many moves deep, two spaces for each in front
abbrev pub branch_line : ℕ → ℕ → Moved × ℕ → List ℕ
branch_line depth sum found = with_end (repeat depth (codes "  ") ++ branch_text sum found)

-- the lines of these moves in turn, each followed by a text of which this is so
abbrev pub Branches : (Moved × ℕ → List ℕ) → (Moved → List ℕ → Type 0) → List (Moved × ℕ)
    → List ℕ → Type 0
Branches line below [] text = text ≡ []
Branches line below (found ∷ others) text =
    (under rest : List ℕ) × below found.0 under × Branches line below others rest
    × (text ≡ line found ++ (under ++ rest))

-- those of no less than this weight
abbrev pub heavy : ℕ → List (Moved × ℕ) → List (Moved × ℕ)
heavy least found = filter (λ p. nat_le least p.1) found

-- So many plies from a position that stands so many moves deep: what the book has for it with no
-- less than this weight, where the shares are of all that it has, and below each move a ply less
-- from the position after it.
abbrev pub Tree : List ℕ → List Entry → ℕ → ℕ → ℕ → Position → List ℕ → Type 0
Tree words entries least zero depth s text = text ≡ []
Tree words entries least (suc plies) depth s text =
    (found : List (Moved × ℕ)) × Found entries words s found
    × Branches (branch_line depth (sum_of_weights found))
    (λ m. Tree words entries least plies (depth + 1) (after s m)) (heavy least found) text

-- a front was put of each text of which this is so
abbrev pub PutsFrontOf : (List ℕ → Type 0) → SinkState → SinkState → Type 0
PutsFrontOf is sink sink' = (text : List ℕ) → is text
    → (count : ℕ) × Appends sink.bytes sink'.bytes (take count text)

-- the sink failed, or memory was wanting and it did not
abbrev pub FailsOrWants : SinkState → SinkState → Fault → Type 0
FailsOrWants sink sink' fault = ((fault ≡ Write) × (sink'.failed ≡ true))
    ⊎ ((fault ≡ Memory) × (sink'.failed ≡ sink.failed))

-- a text of which this is so was put, or a fault came, and nothing was handed on
pub record PutsTree (is : List ℕ → Type 0) (sink sink' : SinkState)
    (result : Result (Unit {0}) Fault) : Type 0 where
  pub all : OnOk result ((text : List ℕ) × is text × Appends sink.bytes sink'.bytes text)
  pub front : OnErr result (PutsFrontOf is sink sink')
  pub works : OnOk result (sink'.failed ≡ sink.failed)
  pub fault : IfErr result (FailsOrWants sink sink')
  pub flushes : sink'.flushes ≡ sink.flushes

-- the same, and the whole text was handed on
pub record ShowsTree (is : List ℕ → Type 0) (sink sink' : SinkState)
    (result : Result (Unit {0}) Fault) : Type 0 where
  pub all : OnOk result ((text : List ℕ) × is text × Appends sink.bytes sink'.bytes text)
  pub handed_on : OnOk result (HandedOnOnce sink sink')
  pub front : OnErr result (PutsFrontOf is sink sink')
  pub fault : IfErr result (FailsOrWants sink sink')
  pub flushes : OnErr result (sink'.flushes ≡ sink.flushes)

-- How a run ends. The table is read, then the book, and then the record is judged, as by `probe`.
-- The tree of the record's setup is shown, so many plies deep, over moves of no less than this
-- weight.
abbrev pub GrowsTree : ℕ → SourceState → SourceState → SourceState → SourceState → List ℕ → ℕ → ℕ
    → SinkState → SinkState → Result Bool Stopped → Type 0
GrowsTree fills t t' b b' fen plies least sink sink' result =
    WithSources fills t t' b b' (λ words entries. ByInput (AsRecord fen)
    (λ f. (ended : Result (Unit {0}) Fault)
    × ShowsTree (Tree words entries least plies 0 f.setup) sink sink' ended
    × (result ≡ result_map_both (λ _. true) (λ fault. stopped.Fault fault) ended))
    (λ e. StopsOrEnds (λ verdict. verdict ≡ record_verdict e) sink sink' result))
    (λ refusal. StopsOrEnds (λ verdict. verdict ≡ refusal) sink sink' result)
