-- What the command `lookup` writes: for each line the moves that a book has for its position, or
-- why it has none.
use Rattle.std.specs.Prelude.{◌≡◌, ℕ, List, [], ◌∷◌, Result, codes, map, Bool}
use Rattle.std.specs.List.{join_with_byte}
use Rattle.pb_board.specs.LineEnd.{with_end}
use Rattle.pb_moves.specs.Moved.{Moved}
use Rattle.pb_poly.specs.declared.book.Entry.{Entry}
use Rattle.pb_poly.specs.declared.reading.BookError.{BookError}
use Rattle.pb_poly.specs.declared.table.TableFault.{TableFault}
use Rattle.pb_commands.specs.EpdShown.{AsEpd, LineGives, epd_verdict}
use Rattle.pb_commands.specs.Judged.{ByInput, Verdict, AsRecord, StopsOrEnds}
use Rattle.pb_commands.specs.LinesRun.{LinesShown, AnswersOrEnds}
use Rattle.pb_commands.specs.ProbeShown.{FoundShown, found_text, WithBook, WithSources}
use Rattle.std.specs.Result.{result_map_both}
use Rattle.pb_io.specs.Sink.{SinkState}
use Rattle.pb_io.specs.Source.{SourceState}
use Rattle.pb_io.specs.declared.fault.Fault.{Fault}
use Rattle.pb_commands.specs.declared.stop.Stopped.{Stopped}
use Rattle.pb_commands.specs.declared.stop.Stopped.TheVariants as stopped

-- the moves with their weights, a space between all, or that there is none
abbrev pub moves_line : List (Moved × ℕ) → List ℕ
moves_line [] = with_end (codes "-")
moves_line (found ∷ others) = with_end (join_with_byte 32 (map found_text (found ∷ others)))

-- what the line of this number gives: its text is judged as a FEN record, and then as an EPD record
abbrev pub LineFound : List ℕ → List Entry → ℕ → List ℕ → Verdict → Type 0
LineFound words entries = LineGives (λ number text verdict. ByInput (AsRecord text)
    (λ f. FoundShown words entries moves_line f.setup verdict)
    (λ _. ByInput (AsEpd text) (λ e. FoundShown words entries moves_line e.setup verdict)
    (λ x. verdict ≡ epd_verdict number x)))

-- what the command comes to for these lines, where `table` and `book` tell what its first two
-- inputs are
abbrev pub LookupShown : (Result (List ℕ) TableFault → Type 0)
    → (Result (List Entry) BookError → Type 0) → List (List ℕ) → Verdict → Type 0
LookupShown table book ls verdict = WithBook table book
    (λ words entries. LinesShown (LineFound words entries) 1 ls verdict)
    (λ refusal. verdict ≡ refusal)

-- How a run ends. The table is read, then the book, and then the lines are answered. What comes
-- after the first that can't be had is left alone.
abbrev pub LooksUp : ℕ → SourceState → SourceState → SourceState → SourceState → SourceState
    → SourceState → SinkState → SinkState → Result Bool Stopped → Type 0
LooksUp fills t t' b b' s s' sink sink' result =
    WithSources fills t t' b b' (λ words entries. (ended : Result Bool Fault)
    × AnswersOrEnds (LineFound words entries) fills s s' sink sink' ended
    × (result ≡ result_map_both (λ answer. answer) (λ fault. stopped.Fault fault) ended))
    (λ refusal. (s' ≡ s) × StopsOrEnds (λ verdict. verdict ≡ refusal) sink sink' result)
