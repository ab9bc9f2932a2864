-- What comes of lines that are short, and of those whose positions are looked up.
use Rattle.std.proofs.Common.{◌≡◌, ◌∙◌, ℕ, Bor, List, Option, Some, Result, Ok, Err, ap, inl, inr}
use Rattle.std.proofs.Common.{refl, subst, sym, true}
use Rattle.std.specs.Str.Lines.{strip_carriage_return}
use Rattle.pb_board.specs.Position.{Position}
use Rattle.pb_board.specs.LineEnd.{with_end}
use Rattle.pb_epd.specs.Epd.{epd_form}
use Rattle.pb_epd.specs.declared.refusal.EpdError.{EpdError}
use Rattle.pb_io.specs.Lines.{IsLine}
use Rattle.pb_io.specs.declared.fault.Fault.TheVariants.{Memory}
use Rattle.pb_moves.specs.Moved.{Moved}
use Rattle.pb_poly.specs.declared.book.Entry.{Entry}
use Rattle.pb_poly.specs.Found.{Found}
use Rattle.pb_commands.specs.EpdShown.{AsEpd, IsBlank, LineGives, epd_verdict}
use Rattle.pb_commands.specs.Judged.{ByInput, Verdict, AsRecord}
use Rattle.pb_commands.specs.LookupShown.{moves_line}
use Rattle.pb_commands.specs.ProbeShown.{FoundShown}

-- a line that was told as its bytes, and its text
pub line_full : (gives : ℕ → List ℕ → Verdict → Type 0) (number : ℕ) (given : Option (Bor (List ℕ))) (bytes : Bor (List ℕ)) (text line : List ℕ) → given ≡ Some bytes
    → IsLine given line → text ≡ strip_carriage_return bytes.now → ¬ IsBlank text → (verdict : Verdict) → gives number text verdict → LineGives gives number line verdict
line_full gives number given bytes text line some told stripped full verdict h =
    let is = subst (λ (o : Option (Bor (List ℕ))). IsLine o line) some told in
    let same : text ≡ strip_carriage_return line = stripped ∙ ap strip_carriage_return is.0 in
    inr (is.1, inr (λ blank. full (subst IsBlank (sym same) blank), subst (λ (x : List ℕ). gives number x verdict) same h))

-- what comes of the text for `epd`
abbrev pub EpdGives : ℕ → List ℕ → Verdict → Type 0
EpdGives number text verdict = ByInput (AsEpd text) (λ e. verdict ≡ Ok (true, with_end (epd_form e))) (λ x. verdict ≡ epd_verdict number x)

-- what the text is judged to be: a record of either kind, by its setup, or none
abbrev IsSetupOf : List ℕ → Result Position EpdError → Type 0
IsSetupOf text result = ByInput (AsRecord text) (λ f. result ≡ Ok f.setup) (λ _. ByInput (AsEpd text) (λ e. result ≡ Ok e.setup) (λ x. result ≡ Err x))

-- what comes of the text for `lookup`
abbrev pub Gives : List ℕ → List Entry → ℕ → List ℕ → Verdict → Type 0
Gives words entries number text verdict =
    ByInput (AsRecord text) (λ f. FoundShown words entries moves_line f.setup verdict)
    (λ _. ByInput (AsEpd text) (λ e. FoundShown words entries moves_line e.setup verdict) (λ x. verdict ≡ epd_verdict number x))

module _ (words : List ℕ) (entries : List Entry) (number : ℕ) (text : List ℕ) where
  abbrev At : Position → Verdict → Type 0
  At s verdict = FoundShown words entries moves_line s verdict

  at_setup : (s : Position) (verdict : Verdict) → IsSetupOf text (Ok s) → At s verdict → Gives words entries number text verdict
  at_setup s verdict (Ok f, h, is) shown = let same : s ≡ f.setup = cc is in (Ok f, h, subst (λ (x : Position). At x verdict) same shown)
  at_setup s verdict (Err d, h, (Ok e, k, is)) shown = let same : s ≡ e.setup = cc is in (Err d, h, (Ok e, k, subst (λ (x : Position). At x verdict) same shown))
  at_setup s verdict (Err d, h, (Err x, k, is)) shown = absurd (cc is)

  pub text_found : (s : Position) → IsSetupOf text (Ok s) → (pairs others : List (Moved × ℕ)) → Found entries words s pairs → others ≡ pairs
      → Gives words entries number text (Ok (true, moves_line others))
  text_found s is pairs others found same =
      at_setup s (Ok (true, moves_line others)) is (inl (pairs, found, ap (λ (ps : List (Moved × ℕ)). let v : Verdict = Ok (true, moves_line ps) in v) same))

  pub text_wants : (s : Position) → IsSetupOf text (Ok s) → Gives words entries number text (Err Memory)
  text_wants s is = at_setup s (Err Memory) is (inr refl)

  pub text_refused : (x : EpdError) → IsSetupOf text (Err x) → Gives words entries number text (epd_verdict number x)
  text_refused x (Ok f, h, is) = absurd (cc is)
  text_refused x (Err d, h, (Ok e, k, is)) = absurd (cc is)
  text_refused x (Err d, h, (Err y, k, is)) = let same : x ≡ y = cc is in (Err d, h, (Err y, k, ap (epd_verdict number) same))
