-- The saved form of a ledger's games, and what the lines of one, or of an old list of submission
-- lines, make of a ledger without games.
use Rattle.std.specs.Prelude.{◌≡◌, ℕ, List, ◌∷◌, codes, flat_map, map, ◌⊎◌, Bool, false}
use Rattle.std.specs.Prelude.{if◌then◌else◌, [], length, All, IsOk, IsTrue, ◌≢◌, ◌+◌, true, IsErr}
use Rattle.std.specs.Prelude.{Result, Ok, Err}
use Rattle.pb_board.specs.LineEnd.{with_end}
use Rattle.pb_games.specs.Submissions.{Submission, submission_text}
use Rattle.std.specs.Str.{bytes_eq}
use Rattle.std.specs.Str.Lines.{strip_carriage_return}
use Rattle.pb_io.specs.LineTask.{AtFault, AtLine, AtNoEnd}
use Rattle.pb_io.specs.Source.{SourceState}
use Rattle.pb_accepted.specs.Accepting.{Answer, Run, Step}
use Rattle.pb_accepted.specs.Ledger.{LedgerState}
use Rattle.pb_ledger.specs.Change.{Change, IsSame, across, AtLast, Makes, Wants, SameLedger}
use Rattle.pb_ledger.specs.declared.saving.LoadError.{LoadError}
use Rattle.pb_ledger.specs.declared.saving.LoadError.TheVariants.{Line, Read, Endless, Memory}
use Rattle.pb_io.specs.Count.{next_count}
use Rattle.pb_io.specs.declared.fault.ReadFault.{ReadFault}
use Rattle.pb_io.specs.declared.fault.ReadFault.TheVariants as fault
use Rattle.pb_games.specs.declared.refusal.Refusal.TheVariants as refusal
use Rattle.pb_ledger.specs.declared.saving.Loader.{Loader}

-- its first line
abbrev pub header : List ℕ
header = codes "pbook-ledger 1"

-- the header, and then the text of each submission in order, with an LF after each line
abbrev pub Saved : List Submission → List ℕ → Type 0
Saved A bytes = bytes ≡ flat_map with_end (header ∷ map submission_text A)

-- ---- what lines make of a ledger without games

-- the line is the header, maybe with a CR
abbrev pub is_header : List ℕ → Bool
is_header line = bytes_eq (strip_carriage_return line) header

-- the lines are those of a saved ledger, and not of an old list
abbrev pub has_header : List (List ℕ) → Bool
has_header [] = false
has_header (line ∷ ls) = is_header line

-- the lines that have to be submissions
abbrev pub submission_lines : List (List ℕ) → List (List ℕ)
submission_lines [] = []
submission_lines (line ∷ ls) = if is_header line then ls else line ∷ ls

-- the lines make B: no submission of theirs is refused, and after a header each brings a new game
pub record Loads (cap : ℕ) (ls : List (List ℕ)) (B : List Submission) : Type 0 where
  pub answers : List Answer
  pub run : Run cap [] (submission_lines ls) answers B
  pub taken : All IsOk answers
  pub new : IsTrue (has_header ls) → length B ≡ length (submission_lines ls)

-- the lines but the last one make the games that are held, and with the last one they make none,
-- with whatever memory: it is refused, or brings no new game after a header
abbrev pub Breaks : Change LedgerState → List (List ℕ) → Type 0
Breaks ledger ls = AtLast (λ before line. Makes Loads ledger before) ls
    × ((B : List Submission) → ¬ Loads ledger.old.cap ls B)

-- how loading ends with each error; at line n, from 1
abbrev pub LoadsUntil : ℕ → Change SourceState → Change LedgerState → LoadError → Type 0
LoadsUntil fills source ledger (Line n) =
    across (AtLine fills) source (λ ls. (n ≡ length ls) × Breaks ledger ls)
LoadsUntil fills source ledger Read = across (AtFault fills) source (Makes Loads ledger)
LoadsUntil fills source ledger Endless = across (AtNoEnd fills) source (Makes Loads ledger)
LoadsUntil fills source ledger Memory = (IsSame source × IsSame ledger)
    ⊎ across (AtLine fills) source (Wants Loads ledger)

-- ---- what the loader does with a line

-- what comes of the answer to line n, where A became B: after a header the line has to bring a new
-- game
abbrev pub Judged : Bool → ℕ → List Submission → List Submission → Answer
    → Result (Unit {0}) LoadError → Type 0
Judged is_saved n A B answer (Ok x) = IsOk answer × (IsTrue is_saved → length B ≡ length A + 1)
Judged is_saved n A B answer (Err Memory) = answer ≡ Err refusal.Memory
Judged is_saved n A B answer (Err (Line m)) =
    (m ≡ n) × (answer ≢ Err refusal.Memory) × (B ≡ A) × (IsErr answer ⊎ IsTrue is_saved)
Judged is_saved n A B answer (Err _) = ⊥

-- the line was submitted, and counted
pub record LoadsGame {T : Type 0} (s : Loader T) (line : List ℕ)
    (result : Result (Unit {0}) LoadError) (t : Loader T) : Type 0 where
  pub answer : Answer
  pub step : Step s.ledger.now.cap s.ledger.now.accepted line answer t.ledger.now.accepted
  pub judged : Judged s.is_saved t.lines s.ledger.now.accepted t.ledger.now.accepted answer result
  pub lines : t.lines ≡ next_count s.lines
  pub saved : t.is_saved ≡ s.is_saved
  pub keeps : SameLedger s.ledger t.ledger

-- a line was taken: the first one as the header, where it is that, and any other was submitted
pub data LoadsLine {T : Type 0} (s : Loader T) (line : List ℕ)
    (result : Result (Unit {0}) LoadError) (t : Loader T) : Type 0 where
  headed : s.lines ≡ 0 → is_header line ≡ true → result ≡ Ok tt
      → t ≡ record s { lines = 1; is_saved = true } → LoadsLine s line result t
  submission : (s.lines ≡ 0 → is_header line ≡ false) → LoadsGame s line result t
      → LoadsLine s line result t

-- what a fault of reading is to the loading
abbrev pub load_error : ReadFault → LoadError
load_error fault.Read = Read
load_error fault.Endless = Endless
load_error fault.Memory = Memory
