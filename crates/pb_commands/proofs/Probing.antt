-- What the command `probe` puts, from what its parts do.
use Rattle.std.proofs.Common.{◌≡◌, ◌∙◌, ℕ, Bool, List, Some, Result, Ok, Err, arith, inl, inr, refl}
use Rattle.std.proofs.Common.{subst, sym, true}
use Rattle.std.specs.Prelude.{IfErr, IfOk, MatchResult}
use Rattle.pb_board.specs.Fields.{fields, space}
use Rattle.pb_board.specs.Refusal.{IsDueFen, IsFirstOf, fen_errors}
use Rattle.pb_board.specs.Text.{fen_text}
use Rattle.pb_board.specs.declared.refusal.FenError.{FenError}
use Rattle.pb_board.specs.Position.{IsRecord, Position, Record}
use Rattle.pb_moves.specs.Moved.{Moved}
use Rattle.pb_poly.specs.Found.{Found}
use Rattle.pb_io.specs.Sink.{SinkState}
use Rattle.pb_io.specs.Source.{SourceState}
use Rattle.pb_poly.specs.Reading.{AsBook, Tells}
use Rattle.pb_poly.specs.TableReading.{AsTable, ReadsTable}
use Rattle.pb_poly.specs.declared.table.TableFault.{TableFault}
use Rattle.pb_poly.specs.declared.table.TableFault.TheVariants as table_fault
use Rattle.pb_poly.proofs.Told.{book_told, table_told}
use Rattle.pb_commands.specs.Judged.{book_verdict, Verdict, OnlyTextsOf, TextsAreOf, AsRecord}
use Rattle.pb_commands.specs.Judged.{record_verdict, StopsOrEnds, table_verdict, Shows}
use Rattle.pb_commands.specs.ProbeShown.{FoundShown, ProbeShown, ProbesSources, probe_text}
use Rattle.pb_commands.specs.ProbeShown.{ReadsBoth}
use Rattle.pb_commands.specs.declared.probe.Finder.{Finder}
use Rattle.pb_commands.specs.declared.stop.Stopped.{Stopped}
use Rattle.pb_commands.specs.declared.stop.Stopped.TheVariants as stopped
use Rattle.pb_io.specs.declared.fault.Fault.{Fault}
use Rattle.pb_io.specs.declared.fault.ReadFault.TheVariants as read
use Rattle.pb_io.specs.declared.fault.Fault.TheVariants.{Memory}
use Rattle.pb_commands.proofs.Judging.{only_texts, text_not_shown, text_shown}
use Rattle.pb_commands.proofs.OneProbe.{probe_is_one}
use Rattle.pb_commands.proofs.Showing.{book_wants}
use Rattle.pb_commands.proofs.Stopping.{stops_by}
use Rattle.pb_commands.proofs.Told.{told_no_book, told_no_table}

-- of a source that tells its bytes, doesn't fail and ends within the fills only want of memory comes
-- in place of a table
module _ (fills : ℕ) (t t' : SourceState) (bytes : List ℕ) (tells : Tells fills t t' bytes) where
  table_wants : (fault : Fault) (e : TableFault) → ReadsTable fills t t' (Err e) → Err fault ≡ table_verdict e → fault ≡ Memory
  table_wants fault table_fault.Long h is = absurd (cc is)
  table_wants fault (table_fault.Line n) h is = absurd (cc is)
  table_wants fault (table_fault.Count n) h is = absurd (cc is)
  table_wants fault (table_fault.Fault read.Read) h is = absurd (cc (sym (table_told fills t t' bytes tells.told (Err (table_fault.Fault read.Read)) h) ∙ tells.works))
  table_wants fault (table_fault.Fault read.Endless) h is = absurd (omega (arith, table_told fills t t' bytes tells.told (Err (table_fault.Fault read.Endless)) h, tells.ends))
  table_wants fault (table_fault.Fault read.Memory) h is = cc is

-- what is read of a text as a record
pub as_record : (fen : List ℕ) (read : Result Record FenError) → IfOk read (λ f. IsRecord f × (fen ≡ fen_text f)) → IfErr read (IsFirstOf fen_errors (IsDueFen (fields space fen)))
    → AsRecord fen read
as_record fen (Ok f) found refused = found
as_record fen (Err e) found refused = refused

module _ (fills : ℕ) (t t' b b' : SourceState) (fen : List ℕ) where
  abbrev judges : Verdict → Type 0
  judges = ProbesSources fills t t' b b' fen

  abbrev Ends : SinkState → SinkState → Result Bool Stopped → Type 0
  Ends = StopsOrEnds judges

  -- where the table or the book can't be had
  pub none_probed : (sink sink' : SinkState) (stop : Stopped) → ReadsBoth fills t t' b b' sink sink' (Err stop) → Ends sink sink' (Err stop)
  none_probed sink sink' stop (Err e, read, r) = stops_by judges (table_verdict e) (Err e, read, refl) sink sink' (Err stop) r
  none_probed sink sink' stop (Ok words, read, (Err e, read_too, r)) = stops_by judges (book_verdict e) (Ok words, read, (Err e, read_too, refl)) sink sink' (Err stop) r
  none_probed sink sink' stop (Ok words, read, (Ok entries, read_too, r)) = absurd r

  module _ (sink mid : SinkState) (finder : Finder) (both : ReadsBoth fills t t' b b' sink mid (Ok finder)) where
    begun : (sink' : SinkState) (result : Result Bool Stopped) → Ends mid sink' result → Ends sink sink' result
    begun sink' result = subst (λ (x : SinkState). Ends x sink' result) both.2

    judged_by : (verdict : Verdict) (read : Result Record FenError) → AsRecord fen read
        → MatchResult read (λ f. FoundShown finder.table finder.book probe_text f.setup verdict) (λ e. verdict ≡ record_verdict e) → judges verdict
    judged_by verdict read is shown = (Ok finder.table, (both.0, tt), (Ok finder.book, both.1, (read, is, shown)))

    pub at_record : (sink' : SinkState) (result : Result Bool Stopped) (e : FenError) → AsRecord fen (Err e) → StopsOrEnds (λ verdict. verdict ≡ record_verdict e) mid sink' result
        → Ends sink sink' result
    at_record sink' result e due r = begun sink' result (stops_by judges (record_verdict e) (judged_by (record_verdict e) (Err e) due refl) mid sink' result r)

    module _ (f : Record) (is_record : AsRecord fen (Ok f)) where
      pub at_memory : Ends sink mid (Err (stopped.Fault Memory))
      at_memory = begun mid (Err (stopped.Fault Memory)) (judged_by (Err Memory) (Ok f) is_record (inr refl), refl)

      -- the moves that are found for the record
      module _ (s : Position) (is_setup : s ≡ f.setup) (pairs : List (Moved × ℕ)) (found : Found finder.book finder.table s pairs) (others : List (Moved × ℕ)) (same : others ≡ pairs)
          (sink' : SinkState) where
        shown : judges (Ok (true, probe_text others))
        shown =
            let there = subst (λ (x : Position). Found finder.book finder.table x pairs) is_setup found in
            let here = subst (λ (x : List (Moved × ℕ)). Found finder.book finder.table f.setup x) (sym same) there in
            judged_by (Ok (true, probe_text others)) (Ok f) is_record (inl (others, here, refl))

        pub at_moves : {A : Type 0} (v : A) → Shows {A = A} mid sink' (Ok v) (probe_text others) → Ends sink sink' (Ok true)
        at_moves v h = begun sink' (Ok true) (refl, text_shown judges mid sink' true (probe_text others) shown v h)

        pub at_fault : {A : Type 0} (e : Fault) → Shows {A = A} mid sink' (Err e) (probe_text others) → Ends sink sink' (Err (stopped.Fault e))
        at_fault e h = begun sink' (Err (stopped.Fault e)) (text_not_shown judges mid sink' true (probe_text others) shown e h)

  -- where both sources tell their bytes
  module _ (table book : List ℕ) (told_t : t.to_come ≡ Some table) (told_b : b.to_come ≡ Some book) where
    pub told_probed : TextsAreOf judges (ProbeShown (AsTable table) (AsBook book) fen)
    told_probed text (Err e, h, is) = (Err e, told_no_table fills t t' table told_t e text is h.0, is)
    told_probed text (Ok words, h, (Err e, k, is)) = (Ok words, table_told fills t t' table told_t (Ok words) h.0, (Err e, told_no_book fills b b' book told_b e text is k, is))
    told_probed text (Ok words, h, (Ok entries, k, shown)) = (Ok words, table_told fills t t' table told_t (Ok words) h.0, (Ok entries, book_told fills b b' book told_b (Ok entries) k, shown))

  -- where both sources tell their bytes, don't fail and end within the fills
  module _ (table book : List ℕ) (tells_t : Tells fills t t' table) (tells_b : Tells fills b b' book) where
    probe_wants : (fault : Fault) → judges (Err fault) → fault ≡ Memory
    probe_wants fault (Err e, h, is) = table_wants fills t t' table tells_t fault e h.0 is
    probe_wants fault (Ok words, h, (Err e, k, is)) = book_wants fills b b' book tells_b fault e k is
    probe_wants fault (Ok words, h, (Ok entries, k, (Err e, r, is))) = absurd (cc is)
    probe_wants fault (Ok words, h, (Ok entries, k, (Ok f, r, inl (pairs, found, is)))) = absurd (cc is)
    probe_wants fault (Ok words, h, (Ok entries, k, (Ok f, r, inr is))) = cc is

    pub probes_only : OnlyTextsOf judges (ProbeShown (AsTable table) (AsBook book) fen)
    probes_only = only_texts judges (ProbeShown (AsTable table) (AsBook book) fen) (told_probed table book tells_t.told tells_b.told) (probe_is_one table book fen) probe_wants
