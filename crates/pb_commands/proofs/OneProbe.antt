-- Bytes show one text of a table, a book and a record.
use Rattle.std.proofs.Common.{◌≡◌, ◌∙◌, ℕ, Bool, List, Result, Ok, Err, ap, inl, inr, sym, true}
use Rattle.pb_board.specs.declared.refusal.FenError.{FenError}
use Rattle.pb_board.specs.Position.{IsRecord, Record}
use Rattle.pb_board.specs.Fields.{fields}
use Rattle.pb_board.specs.Refusal.{IsDueFen, fen_errors}
use Rattle.pb_board.proofs.Dues.{one_first}
use Rattle.pb_board.proofs.Fens.{record_never_due}
use Rattle.pb_board.proofs.Unique.{one_record}
use Rattle.pb_poly.specs.declared.book.Entry.{Entry}
use Rattle.pb_poly.proofs.Finding.{found_is_one}
use Rattle.pb_poly.proofs.OneBook.{one_book}
use Rattle.pb_poly.proofs.OneTable.{one_table}
use Rattle.pb_poly.specs.Reading.{AsBook}
use Rattle.pb_poly.specs.TableReading.{AsTable}
use Rattle.pb_commands.specs.Judged.{book_verdict, ByInput, Verdict, AsRecord, record_verdict}
use Rattle.pb_commands.specs.Judged.{table_verdict}
use Rattle.pb_commands.specs.ProbeShown.{FoundShown, ProbeShown, probe_text}
use Rattle.pb_commands.proofs.Judging.{by_one}

-- ---- records

one_text : (fen : List ℕ) (r x : Result Record FenError) → AsRecord fen r → AsRecord fen x → r ≡ x
one_text fen (Ok f) (Ok g) h k = ap (λ y. Ok y) (one_record f g fen h.0 k.0 h.1 k.1)
one_text fen (Ok f) (Err e) h k = absurd (record_never_due f fen e h.0 h.1 k)
one_text fen (Err d) (Ok g) h k = absurd (record_never_due g fen d k.0 k.1 h)
one_text fen (Err d) (Err e) h k = ap (λ y. Err y) (one_first (IsDueFen (fields 32 fen)) fen_errors d e h k)

-- ---- all three

-- what is shown where there are a table and a book, or a table alone
abbrev RecordShown : List ℕ → List ℕ → List Entry → Verdict → Type 0
RecordShown fen words entries verdict = ByInput (AsRecord fen) (λ f. FoundShown words entries probe_text f.setup verdict) (λ e. verdict ≡ record_verdict e)

abbrev UnderTable : List ℕ → List ℕ → List ℕ → Verdict → Type 0
UnderTable fen book words verdict = ByInput (AsBook book) (λ entries. RecordShown fen words entries verdict) (λ e. verdict ≡ book_verdict e)

-- a text that is put for moves that are found is one
found_one : (words : List ℕ) (entries : List Entry) (f : Record) → IsRecord f → (a b : Bool × List ℕ) → FoundShown words entries probe_text f.setup (Ok a)
    → FoundShown words entries probe_text f.setup (Ok b) → a ≡ b
found_one words entries f lawful a b (inl (pairs, h, is)) (inl (others, k, is')) =
    let same = found_is_one entries words f.setup pairs others lawful.setup h k in cc (is ∙ ap (λ ps. Ok (true, probe_text ps)) same ∙ sym is')
found_one words entries f lawful a b (inl (pairs, h, is)) (inr is') = absurd (cc is')
found_one words entries f lawful a b (inr is) k = absurd (cc is)

module _ (table book fen : List ℕ) (a b : Bool × List ℕ) where
  record_is_one : (words : List ℕ) (entries : List Entry) → RecordShown fen words entries (Ok a) → RecordShown fen words entries (Ok b) → a ≡ b
  record_is_one words entries =
      by_one (AsRecord fen) (one_text fen) (λ f. FoundShown words entries probe_text f.setup (Ok a)) (λ f. FoundShown words entries probe_text f.setup (Ok b))
      (λ e. Ok a ≡ record_verdict e) (λ e. Ok b ≡ record_verdict e) (a ≡ b) (λ f r. found_one words entries f r.0 a b) (λ e is is'. cc (is ∙ sym is'))

  book_is_one : (words : List ℕ) → UnderTable fen book words (Ok a) → UnderTable fen book words (Ok b) → a ≡ b
  book_is_one words =
      by_one (AsBook book) (one_book book) (λ entries. RecordShown fen words entries (Ok a)) (λ entries. RecordShown fen words entries (Ok b))
      (λ e. Ok a ≡ book_verdict e) (λ e. Ok b ≡ book_verdict e) (a ≡ b) (λ entries h. record_is_one words entries) (λ e is is'. cc (is ∙ sym is'))

  pub probe_is_one : ProbeShown (AsTable table) (AsBook book) fen (Ok a) → ProbeShown (AsTable table) (AsBook book) fen (Ok b) → a ≡ b
  probe_is_one =
      by_one (AsTable table) (one_table table) (λ words. UnderTable fen book words (Ok a)) (λ words. UnderTable fen book words (Ok b))
      (λ e. Ok a ≡ table_verdict e) (λ e. Ok b ≡ table_verdict e) (a ≡ b) (λ words h. book_is_one words) (λ e is is'. cc (is ∙ sym is'))
