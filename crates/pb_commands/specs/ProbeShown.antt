-- What the command `probe` writes: a line for each move that a book has for a position.
use Rattle.std.specs.Prelude.{◌≡◌, ℕ, List, OnErr, Result, Ok, Err, ◌⊎◌, true, ◌∷◌, ◌++◌, decimal}
use Rattle.std.specs.Prelude.{flat_map}
use Rattle.pb_io.specs.Sink.{SinkState}
use Rattle.pb_io.specs.Source.{SourceState}
use Rattle.pb_poly.specs.Reading.{ReadsBook}
use Rattle.pb_poly.specs.TableReading.{ReadsTable}
use Rattle.pb_poly.specs.declared.book.Entry.{Entry}
use Rattle.pb_poly.specs.declared.reading.BookError.{BookError}
use Rattle.pb_poly.specs.declared.table.TableFault.{TableFault}
use Rattle.pb_commands.specs.Judged.{book_verdict, ByInput, Verdict, StopsOrEnds, table_verdict}
use Rattle.pb_commands.specs.Judged.{AsRecord, record_verdict}
use Rattle.pb_commands.specs.declared.probe.Finder.{Finder}
use Rattle.pb_commands.specs.declared.stop.Stopped.{Stopped}
use Rattle.pb_board.specs.Position.{Position}
use Rattle.pb_board.specs.LineEnd.{with_end}
use Rattle.pb_moves.specs.Moved.{Moved}
use Rattle.pb_moves.specs.Spelling.{spelling}
use Rattle.pb_poly.specs.Found.{Found}
use Rattle.pb_io.specs.declared.fault.Fault.TheVariants.{Memory}

-- ---- a table and a book

-- The table is judged first and the book second. Where both are had this is so of them, and else
-- that of what comes of the first that isn't.
abbrev pub WithBook : (Result (List ℕ) TableFault → Type 0)
    → (Result (List Entry) BookError → Type 0) → (List ℕ → List Entry → Type 0)
    → (Verdict → Type 0) → Type 0
WithBook table book goes ends =
    ByInput table (λ words. ByInput book (goes words) (λ e. ends (book_verdict e)))
    (λ e. ends (table_verdict e))

-- the same over the states of the table's source and of the book's, which is left alone where there
-- is no table
abbrev pub WithSources : ℕ → SourceState → SourceState → SourceState → SourceState
    → (List ℕ → List Entry → Type 0) → (Verdict → Type 0) → Type 0
WithSources fills t t' b b' =
    WithBook (λ table. ReadsTable fills t t' table × OnErr table (b' ≡ b)) (ReadsBook fills b b')

-- both were read, and the sink was left alone; or it was shown why the first that can't be had is
-- refused, or a fault came
abbrev pub ReadsBoth : ℕ → SourceState → SourceState → SourceState → SourceState → SinkState
    → SinkState → Result Finder Stopped → Type 0
ReadsBoth fills t t' b b' sink sink' (Ok finder) = ReadsTable fills t t' (Ok finder.table)
    × ReadsBook fills b b' (Ok finder.book) × (sink' ≡ sink)
ReadsBoth fills t t' b b' sink sink' (Err stop) = WithSources fills t t' b b' (λ words entries. ⊥)
    (λ refusal. StopsOrEnds (λ verdict. verdict ≡ refusal) sink sink' (Err stop))

-- the move and its weight, a space between
abbrev pub found_text : Moved × ℕ → List ℕ
found_text found = spelling found.0 ++ (32 ∷ decimal found.1)

abbrev pub probe_text : List (Moved × ℕ) → List ℕ
probe_text found = flat_map (λ pair. with_end (found_text pair)) found

-- the moves that the book has for the setup, as this text, or want of memory
abbrev pub FoundShown : List ℕ → List Entry → (List (Moved × ℕ) → List ℕ) → Position → Verdict
    → Type 0
FoundShown words entries text s verdict =
    ((pairs : List (Moved × ℕ)) × Found entries words s pairs × (verdict ≡ Ok (true, text pairs)))
    ⊎ (verdict ≡ Err Memory)

-- what the command comes to, where `table` and `book` tell what its inputs are; they are judged in
-- this order, and then the record
abbrev pub ProbeShown : (Result (List ℕ) TableFault → Type 0)
    → (Result (List Entry) BookError → Type 0) → List ℕ → Verdict → Type 0
ProbeShown table book fen verdict = WithBook table book
    (λ words entries. ByInput (AsRecord fen)
    (λ f. FoundShown words entries probe_text f.setup verdict) (λ e. verdict ≡ record_verdict e))
    (λ refusal. verdict ≡ refusal)

-- the same over the states of the table's source and of the book's, which is left alone where there
-- is no table
abbrev pub ProbesSources : ℕ → SourceState → SourceState → SourceState → SourceState → List ℕ
    → Verdict → Type 0
ProbesSources fills t t' b b' fen =
    ProbeShown (λ r. ReadsTable fills t t' r × OnErr r (b' ≡ b)) (ReadsBook fills b b') fen
