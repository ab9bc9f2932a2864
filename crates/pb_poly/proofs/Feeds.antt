-- Entries out of bytes.
use Rattle.std.proofs.Common.{Ok, Err, ◌≡◌, ℕ, ◌+◌, ◌-◌, ◌<◌, ◌≤◌, List, [], ◌∷◌, ◌++◌, length, take, drop, refl, sym, ap, inl, ◌∙◌, subst, append_assoc, arith}
use Rattle.std.specs.List.{copy_within}
use Rattle.std.proofs.Math.Seq.{drop-append_seam, paste, take-append-add}
use Rattle.std.proofs.lemmas.List.{drop-take, length-append, length-drop, length-take, take-take}
use Rattle.std.proofs.lemmas.List.Edits.{take-paste}
use Rattle.std.proofs.lemmas.Slice.{take-put_mid}
use borrow.Rule.Slice.PartMut.{put_mid}
use Rattle.pb_io.specs.Source.{Fill, SourceState}
use Rattle.pb_io.specs.Source.{ReadsOn, ReadsSome, chunk_len}
use Rattle.pb_io.proofs.ReadsLemmas.{ReadsSome-more}
use Rattle.pb_poly.specs.declared.book.Entry.{Entry}
use Rattle.pb_poly.specs.declared.reading.BookError.{BookError}
use Rattle.pb_poly.specs.Entry.{IsEntry, entry_bytes}
use Rattle.pb_poly.specs.Book.{BookBytes, book_bytes}
use Rattle.pb_poly.specs.Ordered.{IsOrdered}
use Rattle.pb_poly.specs.Reading.{BookIs, FailsWithin, ReadsBook, Splits}
use Rattle.pb_poly.specs.Streams.{so_far}
use Rattle.pb_poly.proofs.Entries.{book_bytes-push, bounds-push}

-- of the bytes all but the rest has been taken
pub record IsTaken (old : List Entry) (bytes rest : List ℕ) (now : List Entry) : Type 0 where
  pub front : List ℕ
  pub cut : bytes ≡ front ++ rest
  pub are : book_bytes old ++ front ≡ book_bytes now

module _ (old : List Entry) (bytes rest : List ℕ) (now : List Entry) (h : IsTaken old bytes rest now) where
  pub IsTaken-more : (entry : Entry) (after : List ℕ) → rest ≡ entry_bytes entry ++ after → IsTaken old bytes after (now ++ entry ∷ [])
  IsTaken-more entry after is = record {
    front = h.front ++ entry_bytes entry;
    cut = h.cut ∙ ap (λ xs. h.front ++ xs) is ∙ sym (append_assoc h.front (entry_bytes entry) after);
    are = sym (append_assoc (book_bytes old) h.front (entry_bytes entry)) ∙ ap (λ xs. xs ++ entry_bytes entry) h.are ∙ sym (book_bytes-push now entry);
  }

  -- where the entry that is next gives this fault
  pub IsTaken-fails : (entry : Entry) (after : List ℕ) (last : ℕ) → rest ≡ entry_bytes entry ++ after → IsOrdered now last → IsEntry entry → (e : BookError) → ((bytes : List ℕ) → BookBytes (now ++ entry ∷ []) bytes → BookIs so_far bytes (Err e)) → FailsWithin (book_bytes old) bytes e
  IsTaken-fails entry after last is ordered one e refuses =
      let t = IsTaken-more entry after is in
      (t.front, after, t.cut, refuses (book_bytes old ++ t.front) (record { bounds = bounds-push now entry ordered.bounds one; are = t.are }))

  pub IsTaken-left : (last : ℕ) → IsOrdered now last → length rest < 16 → Splits (book_bytes old ++ bytes) now (drop (length bytes - length rest) bytes)
  IsTaken-left last ordered few =
      let size : length bytes - length rest ≡ length h.front = omega (arith, ap length h.cut, length-append h.front rest) in
      let left : drop (length bytes - length rest) bytes ≡ rest = ap (λ n. drop n bytes) size ∙ ap (drop (length h.front)) h.cut ∙ drop-append_seam h.front rest in
      record {
        bounds = ordered.bounds;
        bytes = ap (λ xs. book_bytes old ++ xs) h.cut ∙ sym (append_assoc (book_bytes old) h.front rest) ∙ ap (λ xs. xs ++ rest) h.are ∙ ap (λ xs. book_bytes now ++ xs) (sym left);
        partial = omega (arith, few, ap length left);
        ordered = ordered.ordered;
      }

-- a fault within what a fill gave
pub finds_no_book : {F : Type 0} (n fills : ℕ) (old mid new : SourceState) (came slice : List ℕ) (count : ℕ) → 0 < length slice → length slice ≤ chunk_len → n < fills
    → ReadsOn chunk_len n old mid came → Fill {E = F} mid new (Ok count) slice → (e : BookError) (before bytes : List ℕ) → before ++ bytes ≡ came ++ take count slice → FailsWithin before bytes e → ReadsBook fills old new (Err e)
finds_no_book n fills old mid new came slice count room fits l on fill e before bytes same (front, rest, cut, due) =
    let reads = ReadsSome-more chunk_len n old mid new came slice room fits on fills count l fill in inl (
      so_far,
      before ++ front,
      (rest, subst (λ (all : List ℕ). ReadsSome chunk_len fills old new all) (sym same ∙ ap (λ xs. before ++ xs) cut ∙ sym (append_assoc before front rest)) reads),
      due,
    )

-- what was filled stands behind what stood there
pub take-filled : (len count k : ℕ) (room slice : List ℕ) → len ≤ length room → count ≤ length slice → take (len + count) (put_mid len k room slice) ≡ take len room ++ take count slice
take-filled len count k room slice inside within =
    let size : length (take len room) ≡ len = omega (arith, length-take len room) in
    sym (take-take (len + count) (len + length slice) _ (omega (arith, within))) ∙ ap (take (len + count)) (take-put_mid len k room slice (len + length slice) refl inside)
    ∙ subst (λ (m : ℕ). take (m + count) (take len room ++ slice) ≡ take len room ++ take count slice) size (take-append-add (take len room) slice count)

-- what was left is at the front
pub take-moved : (end left : ℕ) (bytes : List ℕ) → left ≤ end → end ≤ length bytes → take left (copy_within bytes (end - left) end 0) ≡ drop (length (take end bytes) - left) (take end bytes)
take-moved end left bytes few inside =
    let i = end - left in
    let count : end - i ≡ left = omega (arith, few) in
    let all : i + left ≡ end = omega (arith, few) in
    let at : i ≡ length (take end bytes) - left = omega (arith, length-take end bytes, inside) in
    let none : left ≡ 0 + left = omega arith in
    ap (λ n. take left (paste bytes 0 (drop i bytes) n)) count ∙ ap (λ n. take n (paste bytes 0 (drop i bytes) left)) none
    ∙ take-paste bytes 0 (drop i bytes) left (omega arith) (omega (arith, length-drop i bytes, few, inside)) ∙ sym (drop-take i left bytes) ∙ ap (λ n. drop i (take n bytes)) all
    ∙ ap (λ n. drop n (take end bytes)) at
