-- What the command `show` puts, from what its parts do.
use Rattle.std.proofs.Common.{◌≡◌, ◌∙◌, ℕ, Bool, List, Result, Ok, Err, arith, refl, subst, sym}
use Rattle.std.proofs.Common.{true}
use Rattle.pb_io.specs.Sink.{SinkState}
use Rattle.pb_io.specs.Source.{SourceState}
use Rattle.pb_poly.specs.Reading.{AsBook, ReadsBook, Tells}
use Rattle.pb_poly.specs.declared.book.Entry.{Entry}
use Rattle.pb_poly.specs.declared.reading.BookError.{BookError}
use Rattle.pb_poly.specs.declared.reading.BookError.TheVariants as book_error
use Rattle.pb_poly.proofs.OneBook.{one_book}
use Rattle.pb_poly.proofs.Told.{book_told}
use Rattle.pb_commands.specs.Judged.{book_verdict, Verdict, OnlyTextsOf, StopsOrEnds, Shows}
use Rattle.pb_commands.specs.BookShown.{BookShown, show_text}
use Rattle.pb_commands.specs.declared.stop.Stopped.{Stopped}
use Rattle.pb_commands.specs.declared.stop.Stopped.TheVariants as stopped
use Rattle.pb_io.specs.declared.fault.Fault.{Fault}
use Rattle.pb_io.specs.declared.fault.Fault.TheVariants.{Memory}
use Rattle.pb_commands.proofs.Judging.{by_one, only_texts, text_not_shown, text_shown}
use Rattle.pb_commands.proofs.Stopping.{stops_by}
use Rattle.pb_commands.proofs.Told.{told_shown}

-- bytes show one text as a book
shown_is_one : (bytes : List ℕ) (a b : Bool × List ℕ) → BookShown (AsBook bytes) (Ok a) → BookShown (AsBook bytes) (Ok b) → a ≡ b
shown_is_one bytes a b =
    by_one (AsBook bytes) (one_book bytes) (λ entries. Ok a ≡ Ok (true, show_text entries)) (λ entries. Ok b ≡ Ok (true, show_text entries)) (λ e. Ok a ≡ book_verdict e)
    (λ e. Ok b ≡ book_verdict e) (a ≡ b) (λ entries h is is'. cc (is ∙ sym is')) (λ e is is'. cc (is ∙ sym is'))

-- of a source that tells its bytes, doesn't fail and ends within the fills only want of memory comes
-- in place of a text
module _ (fills : ℕ) (s s' : SourceState) (bytes : List ℕ) (tells : Tells fills s s' bytes) where
  pub book_wants : (fault : Fault) (e : BookError) → ReadsBook fills s s' (Err e) → Err fault ≡ book_verdict e → fault ≡ Memory
  book_wants fault (book_error.Unsorted n) h is = absurd (cc is)
  book_wants fault (book_error.Cut n) h is = absurd (cc is)
  book_wants fault book_error.Read h is = absurd (cc (sym (book_told fills s s' bytes tells.told (Err book_error.Read) h) ∙ tells.works))
  book_wants fault book_error.Endless h is = absurd (omega (arith, book_told fills s s' bytes tells.told (Err book_error.Endless) h, tells.ends))
  book_wants fault book_error.Memory h is = cc is

  show_wants : (fault : Fault) → BookShown (ReadsBook fills s s') (Err fault) → fault ≡ Memory
  show_wants fault (Ok entries, h, is) = absurd (cc is)
  show_wants fault (Err e, h, is) = book_wants fault e h is

  pub shows_only : OnlyTextsOf (BookShown (ReadsBook fills s s')) (BookShown (AsBook bytes))
  shows_only = only_texts (BookShown (ReadsBook fills s s')) (BookShown (AsBook bytes)) (told_shown fills s s' bytes tells.told) (shown_is_one bytes) show_wants

module _ (fills : ℕ) (s s' : SourceState) (sink sink' : SinkState) where
  abbrev judges : Verdict → Type 0
  judges = BookShown (ReadsBook fills s s')

  abbrev Ends : Result Bool Stopped → Type 0
  Ends = StopsOrEnds judges sink sink'

  -- the book was read, and these are its entries
  module _ (book entries : List Entry) (read : ReadsBook fills s s' (Ok book)) (same : entries ≡ book) where
    shown : judges (Ok (true, show_text entries))
    shown = (Ok entries, subst (λ (es : List Entry). ReadsBook fills s s' (Ok es)) (sym same) read, refl)

    pub at_entries : {A : Type 0} (v : A) → Shows {A = A} sink sink' (Ok v) (show_text entries) → Ends (Ok true)
    at_entries v h = (refl, text_shown judges sink sink' true (show_text entries) shown v h)

    pub at_fault : {A : Type 0} (e : Fault) → Shows {A = A} sink sink' (Err e) (show_text entries) → Ends (Err (stopped.Fault e))
    at_fault = text_not_shown judges sink sink' true (show_text entries) shown

  pub at_refusal : (result : Result Bool Stopped) (e : BookError) → ReadsBook fills s s' (Err e) → StopsOrEnds (λ verdict. verdict ≡ book_verdict e) sink sink' result → Ends result
  at_refusal result e h r = stops_by judges (book_verdict e) (Err e, h, refl) sink sink' result r
