-- What the command `epd` writes: for each line its one ordered form, or why it is refused.
use Rattle.std.specs.Prelude.{◌≡◌, ◌⊎◌, ℕ, ◌<◌, ◌≤◌, true, List, [], ◌∷◌, ◌++◌, Result, Ok, Err}
use Rattle.std.specs.Prelude.{length, All, codes, decimal, Bool}
use Rattle.pb_board.specs.Words.{word_of}
use Rattle.std.specs.Str.Lines.{strip_carriage_return}
use Rattle.pb_board.specs.LineEnd.{with_end}
use Rattle.pb_epd.specs.declared.refusal.EpdError.{EpdError}
use Rattle.pb_epd.specs.declared.refusal.EpdError.TheVariants as epd
use Rattle.pb_epd.specs.declared.refusal.EpdError.TheVariants.{Token, Fields, Setup, Opcode}
use Rattle.pb_epd.specs.declared.refusal.EpdError.TheVariants.{Unended, Repeated}
use Rattle.pb_epd.specs.Epd.{EpdRecord, IsEpd, EpdText, epd_form}
use Rattle.pb_epd.specs.Refusal.{IsFirstDueEpd}
use Rattle.pb_io.specs.Lines.{line_limit}
use Rattle.pb_io.specs.declared.fault.Fault.TheVariants.{Memory}
use Rattle.pb_commands.specs.Judged.{ByInput, Verdict, refused_for}
use Rattle.pb_io.specs.Source.{SourceState}
use Rattle.pb_io.specs.Sink.{SinkState}
use Rattle.pb_io.specs.declared.fault.Fault.{Fault}
use Rattle.pb_commands.specs.LinesRun.{AnswersOrEnds}

-- no byte but spaces
abbrev pub IsBlank : List ℕ → Type 0
IsBlank text = All (λ b. b ≡ 32) text

-- the line of this number is refused
abbrev pub refused_line : ℕ → List ℕ → Verdict
refused_line number why = refused_for (decimal number ++ (32 ∷ why))

-- what comes of the line of this number for this reason why it is no EPD record
abbrev pub epd_verdict : ℕ → EpdError → Verdict
epd_verdict number (Token at) = refused_line number (codes "token " ++ decimal at)
epd_verdict number Fields = refused_line number (codes "fields")
epd_verdict number (Setup e) = refused_line number (codes "setup " ++ word_of e)
epd_verdict number (Opcode n) = refused_line number (codes "opcode " ++ decimal n)
epd_verdict number Unended = refused_line number (codes "unended")
epd_verdict number (Repeated n) = refused_line number (codes "repeated " ++ decimal n)
epd_verdict number epd.Memory = Err Memory

-- the text is this EPD record, or none for this reason
abbrev pub AsEpd : List ℕ → Result EpdRecord EpdError → Type 0
AsEpd text (Ok e) = IsEpd e × EpdText e text
AsEpd text (Err x) = IsFirstDueEpd x text

-- What the line of this number gives, and whether it was taken. It is too long, or blank, or else
-- `gives` tells what comes of its text.
abbrev pub LineGives : (ℕ → List ℕ → Verdict → Type 0) → ℕ → List ℕ → Verdict → Type 0
LineGives gives number line verdict =
    ((line_limit < length line) × (verdict ≡ refused_line number (codes "long")))
    ⊎ ((length line ≤ line_limit)
    × ((IsBlank (strip_carriage_return line) × (verdict ≡ Ok (true, [])))
    ⊎ (¬ IsBlank (strip_carriage_return line) × gives number (strip_carriage_return line) verdict)))

-- what a line gives for `epd`
abbrev pub LineShown : ℕ → List ℕ → Verdict → Type 0
LineShown = LineGives (λ number text verdict. ByInput (AsEpd text)
    (λ e. verdict ≡ Ok (true, with_end (epd_form e))) (λ x. verdict ≡ epd_verdict number x))

-- how a run ends
abbrev pub RewritesOrEnds : ℕ → SourceState → SourceState → SinkState → SinkState
    → Result Bool Fault → Type 0
RewritesOrEnds = AnswersOrEnds LineShown
