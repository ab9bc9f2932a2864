-- What the law of the command `lookup` says, from how its run ends.
use Rattle.std.proofs.Common.{◌≡◌, ◌∙◌, ℕ, Bool, List, [], Option, Some, Result, Ok, Err, false}
use Rattle.std.proofs.Common.{subst, sym}
use Rattle.std.specs.Prelude.{IfOk, IfSome}
use Rattle.pb_io.specs.Lines.{lines}
use Rattle.pb_io.specs.Sink.{SinkState}
use Rattle.pb_io.specs.Source.{SourceState}
use Rattle.pb_io.proofs.EndLemmas.{known_of}
use Rattle.pb_poly.proofs.Told.{book_told, table_told}
use Rattle.pb_poly.specs.Reading.{AsBook}
use Rattle.pb_poly.specs.TableReading.{AsTable}
use Rattle.pb_commands.specs.Judged.{book_verdict, PutsText, Verdict, StopsOrEnds, refused_verdict}
use Rattle.pb_commands.specs.Judged.{was_taken, table_verdict}
use Rattle.pb_commands.specs.LinesRun.{LinesShown}
use Rattle.pb_commands.specs.LookupShown.{LooksUp, LineFound, LookupShown}
use Rattle.pb_commands.specs.declared.stop.Stopped.{Stopped}
use Rattle.pb_commands.specs.declared.stop.Stopped.TheVariants as stopped
use Rattle.pb_commands.proofs.Judging.{text_as}
use Rattle.pb_commands.proofs.Told.{told_no_book, told_no_table}

-- where all three sources tell their bytes
module _ (fills : ℕ) (t t' b b' s s' : SourceState) (sink sink' : SinkState) (table book bytes : List ℕ)
    (told_t : t.to_come ≡ Some table) (told_b : b.to_come ≡ Some book) (told_s : s.to_come ≡ Some bytes) where
  abbrev Shows : Verdict → Type 0
  Shows = LookupShown (AsTable table) (AsBook book) (lines bytes)

  abbrev Puts : Bool → Type 0
  Puts = PutsText Shows sink sink'

  -- an input that is refused
  refused_as : (refusal : Verdict) → ((answer : Bool) (out : List ℕ) → Ok (answer, out) ≡ refusal → Shows (Ok (answer, out))) → (result : Result Bool Stopped)
      → StopsOrEnds (λ v. v ≡ refusal) sink sink' result → IfOk (was_taken result) Puts
  refused_as refusal as_shown (Ok answer) h = text_as (λ v. v ≡ refusal) Shows sink sink' answer (as_shown answer) (subst (λ b. PutsText (λ v. v ≡ refusal) sink sink' b) (sym h.0) h.1.0)
  refused_as refusal as_shown (Err (stopped.Refused why)) h = text_as (λ v. v ≡ refused_verdict why) Shows sink sink' false (λ out is. as_shown false out (is ∙ h.0)) h.1.0
  refused_as refusal as_shown (Err (stopped.Fault fault)) h = tt

  pub told_looked_up : (result : Result Bool Stopped) → LooksUp fills t t' b b' s s' sink sink' result → IfOk (was_taken result) Puts
  told_looked_up result (Err e, read, h) =
      refused_as (table_verdict e) (λ answer out is. (Err e, told_no_table fills t t' table told_t e (answer, out) is read.0, is)) result h.1
  told_looked_up result (Ok words, read_t, (Err e, read_b, h)) =
      refused_as (book_verdict e) (λ answer out is. (Ok words, table_told fills t t' table told_t (Ok words) read_t.0, (Err e, told_no_book fills b b' book told_b e (answer, out) is read_b, is))) result h.1
  told_looked_up result (Ok words, read_t, (Ok entries, read_b, (Err fault, h, is))) =
      let P : Result Bool Stopped → Type 0 = λ r. IfOk (was_taken r) Puts in subst P (sym is) tt
  told_looked_up result (Ok words, read_t, (Ok entries, read_b, (Ok answer, h, is))) =
      let Q : List (List ℕ) → Type 0 = λ ls. PutsText (LinesShown (LineFound words entries) 1 ls) sink sink' answer in
      let all = subst (λ (told : Option (List ℕ)). IfSome told (λ xs. (s'.to_come ≡ Some []) × Q (lines xs))) told_s (known_of fills s s' Q h.0) in
      let P : Result Bool Stopped → Type 0 = λ r. IfOk (was_taken r) Puts in
      subst P (sym is) (text_as (LinesShown (LineFound words entries) 1 (lines bytes)) Shows sink sink' answer
      (λ out is. (Ok words, table_told fills t t' table told_t (Ok words) read_t.0, (Ok entries, book_told fills b b' book told_b (Ok entries) read_b, is))) all.1)
