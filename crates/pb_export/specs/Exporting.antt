-- The book of games as EPD (PGN Standard 1994, section 16.2): a line for each setup of the games
-- that the book has moves for.
use Rattle.std.specs.Prelude.{◌≡◌, ◌≢◌, ◌↔◌, ℕ, true, false, List, [], ◌∷◌, ◌++◌}
use Rattle.std.specs.Prelude.{length, map, flat_map, AllPairs, Contains, codes, decimal}
use Rattle.std.specs.Io.KnownBytes.{Appends}
use Rattle.pb_board.specs.Position.{Position}
use Rattle.pb_board.specs.LineEnd.{with_end}
use Rattle.pb_board.specs.Text.{setup_text}
use Rattle.pb_epd.specs.ByteOrder.{IsBytesBelow}
use Rattle.pb_epd.specs.Epd.{EpdRecord, epd_form}
use Rattle.pb_epd.specs.declared.operation.Operand.{Operand}
use Rattle.pb_epd.specs.declared.operation.Operand.TheVariants.{Word}
use Rattle.pb_games.specs.Submissions.{Submission, plies}
use Rattle.pb_moves.specs.Moved.{Moved}
use Rattle.pb_moves.specs.Spelling.{spelling}
use Rattle.pb_poly.specs.Found.{Found}
use Rattle.pb_io.specs.Sink.{AwaitsFlush, HandedOnOnce, SinkState}
use Rattle.pb_io.specs.declared.fault.Fault.{Fault}
use Rattle.pb_io.specs.declared.fault.Fault.TheVariants as run
use Rattle.pb_poly.specs.declared.book.Entry.{Entry}
use Rattle.pb_accepted.specs.Rules.{Basis}
use Rattle.pb_accepted.specs.Counting.{IsBookOf}
use Rattle.pb_accepted.specs.Ledger.{LedgerState}
use Rattle.pb_export.specs.declared.exporting.ExportFault.{ExportFault}
use Rattle.pb_export.specs.declared.exporting.ExportFault.TheVariants as fault

-- the setup stands before a ply of one of the games
abbrev pub StandsBefore : List Submission → Position → Type 0
StandsBefore S s = (x : Submission) × (m : Moved) × Contains S x × Contains (plies x.1) (s, m)

-- a move and its weight, as two words
abbrev pub move_and_weight : Moved × ℕ → List Operand
move_and_weight p = Word (spelling p.0) ∷ Word (decimal p.1) ∷ []

-- the setup with the one operation `bkm`, whose operands are these moves, each followed by its
-- weight
abbrev pub with_book_moves : Position → List (Moved × ℕ) → EpdRecord
with_book_moves s moves =
    record { setup = s; operations = (codes "bkm", flat_map move_and_weight moves) ∷ [] }

-- a setup, its four fields, the moves that a book has for it with their weights, and the line that
-- says so
pub record Listed : Type 0 where
  pub setup : Position
  pub fields : List ℕ
  pub moves : List (Moved × ℕ)
  pub line : List ℕ

-- these moves, one at least, are what the book has for the setup, and the line says so
pub record SaysMoves (words : List ℕ) (book : List Entry) (s : Position) (moves : List (Moved × ℕ))
    (line : List ℕ) : Type 0 where
  pub found : Found book words s moves
  pub some : moves ≢ []
  pub says : line ≡ epd_form (with_book_moves s moves)

-- the setup stands before a ply, with these four fields, and the line says what the book has for it
abbrev pub IsListed : Basis → List Submission → List Entry → Listed → Type 0
IsListed T S book x = StandsBefore S x.setup × (x.fields ≡ setup_text x.setup)
    × SaysMoves T.randoms book x.setup x.moves x.line

-- those of which this is so, each once, in byte order of their four fields
pub record IsListing (is : Listed → Type 0) (listed : List Listed) : Type 0 where
  pub ordered : AllPairs (λ x y. IsBytesBelow x.fields y.fields) listed
  pub members : (x : Listed) → Contains listed x ↔ is x

-- the lines of the export of the games
pub record ExportLines (T : Basis) (S : List Submission) (lines : List (List ℕ)) : Type 0 where
  pub book : List Entry
  pub is_book : IsBookOf T S book
  pub listed : List Listed
  pub is_listing : IsListing (IsListed T S book) listed
  pub are : lines ≡ map (λ x. x.line) listed

-- lines as a text, with an LF after each
abbrev pub text_of_lines : List (List ℕ) → List ℕ
text_of_lines lines = flat_map with_end lines

-- the text of the export of the games
abbrev pub ExportText : Basis → List Submission → List ℕ → Type 0
ExportText T S text = (lines : List (List ℕ)) × ExportLines T S lines × (text ≡ text_of_lines lines)

-- ---- what an export does

-- the export of the games held was put and handed on, once, in so many lines
pub record Exports (ledger : LedgerState) (sink sink' : SinkState) (count : ℕ) : Type 0 where
  pub lines : List (List ℕ)
  pub are : ExportLines ledger.basis ledger.accepted lines
  pub counted : count ≡ length lines
  pub put : Appends sink.bytes sink'.bytes (text_of_lines lines)
  pub handed_on : HandedOnOnce sink sink'

-- what a fault says of the sink: nothing was handed on
abbrev pub FaultOf : ExportFault → SinkState → SinkState → Type 0
FaultOf fault.Write sink sink' =
    (sink'.failed ≡ true) × (sink'.flushed ≡ false) × (sink'.flushes ≡ sink.flushes)
FaultOf fault.Memory sink sink' = AwaitsFlush sink sink'

-- the export ended with a fault: a front of the text was put, and not handed on
pub record ExportsUntil (ledger : LedgerState) (sink sink' : SinkState)
    (e : ExportFault) : Type 0 where
  pub some : List ℕ
  pub put : Appends sink.bytes sink'.bytes some
  pub front : (text : List ℕ) → ExportText ledger.basis ledger.accepted text
      → (rest : List ℕ) × (text ≡ some ++ rest)
  pub cause : FaultOf e sink sink'

-- what a fault of exporting is to a run
abbrev pub fault_of_export : ExportFault → Fault
fault_of_export fault.Write = run.Write
fault_of_export fault.Memory = run.Memory
