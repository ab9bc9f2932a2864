-- What is read of a table file and of a book from a source that tells its bytes.
use Rattle.std.proofs.Common.{◌≡◌, ◌∙◌, ℕ, ◌≤◌, List, ◌++◌, Some, Result, Ok, Err, ap, append_assoc, arith, length, length-append, refl, inl, inr, subst, sym, true}
use Rattle.std.specs.Prelude.{⊤, MatchResult}
use Rattle.pb_io.specs.Source.{ReadsAll, chunk_len}
use Rattle.pb_io.specs.Source.{SourceState}
use Rattle.pb_io.specs.declared.fault.ReadFault.TheVariants as read
use Rattle.pb_poly.specs.Book.{IsBookFile}
use Rattle.pb_poly.specs.Reading.{AsBook, BookIs, ReadsBook, Tells}
use Rattle.pb_poly.specs.Streams.{at_end, at_fault, at_no_end, just_so_far, so_far}
use Rattle.pb_poly.specs.Table.{IsTableFile, table_limit}
use Rattle.pb_poly.specs.TableReading.{AsTable, ReadsTable, TableIs}
use Rattle.pb_poly.specs.declared.book.Entry.{Entry}
use Rattle.pb_poly.specs.declared.reading.BookError.{BookError}
use Rattle.pb_poly.specs.declared.reading.BookError.TheVariants.{Unsorted, Cut, Read, Endless, Memory}
use Rattle.pb_poly.specs.declared.table.TableFault.{TableFault}
use Rattle.pb_poly.specs.declared.table.TableFault.TheVariants.{Long, Line, Count, Fault}
use Rattle.pb_poly.proofs.OneBook.{one_book}
use Rattle.pb_poly.proofs.OneTable.{one_table}
use Rattle.pb_poly.proofs.ToldReads.{all_came, came_first, long_enough}

module _ (fills : ℕ) (old new : SourceState) (bytes : List ℕ) (told : old.to_come ≡ Some bytes) where
  -- ---- books

  -- the bytes come to it, or they weren't all read
  abbrev pub BookTold : Result (List Entry) BookError → Type 0
  BookTold (Err Read) = new.failed ≡ true
  BookTold (Err Endless) = fills ≤ length bytes
  BookTold (Err Memory) = ⊤
  BookTold result = AsBook bytes result

  pub book_told : (result : Result (List Entry) BookError) → ReadsBook fills old new result → BookTold result
  book_told (Ok entries) (inl (at_end, came, reads, is)) = subst (λ xs. IsBookFile entries xs) (sym (all_came chunk_len fills old new bytes told came reads)) is
  book_told (Err (Unsorted n)) (inl (so_far, came, (more, some), is)) =
      let c = came_first chunk_len fills old new bytes told (came ++ more) some.reads in (came, more ++ c.0, c.1 ∙ append_assoc came more c.0, is)
  book_told (Err (Cut n)) (inl (at_end, came, reads, is)) = subst (λ xs. BookIs at_end xs (Err (Cut n))) (sym (all_came chunk_len fills old new bytes told came reads)) is
  book_told (Err Read) (inl (at_fault, came, reads, is)) = reads.fails
  book_told (Err Endless) (inl (at_no_end, came, reads, is)) = long_enough chunk_len fills old new bytes told came reads
  book_told (Err Memory) h = tt
  book_told result (inl (way, came, reads, is)) = absurd is
  book_told result (inr (is, same)) = subst (λ r. BookTold r) (sym is) tt

  -- ---- table files

  abbrev pub TableTold : Result (List ℕ) TableFault → Type 0
  TableTold (Err (Fault read.Read)) = new.failed ≡ true
  TableTold (Err (Fault read.Endless)) = fills ≤ length bytes
  TableTold (Err (Fault read.Memory)) = ⊤
  TableTold result = AsTable bytes result

  pub table_told : (result : Result (List ℕ) TableFault) → ReadsTable fills old new result → TableTold result
  table_told (Ok randoms) (inl (at_end, came, reads, is)) = subst (λ xs. IsTableFile randoms xs) (sym (all_came table_limit fills old new bytes told came reads)) is
  table_told (Err Long) (inl (just_so_far, came, reads, is)) =
      let c = came_first table_limit fills old new bytes told came reads.reads in omega (arith, is, ap length c.1, length-append came c.0)
  table_told (Err (Line n)) (inl (at_end, came, reads, is)) = subst (λ xs. TableIs at_end xs (Err (Line n))) (sym (all_came table_limit fills old new bytes told came reads)) is
  table_told (Err (Count n)) (inl (at_end, came, reads, is)) = subst (λ xs. TableIs at_end xs (Err (Count n))) (sym (all_came table_limit fills old new bytes told came reads)) is
  table_told (Err (Fault read.Read)) (inl (at_fault, came, reads, is)) = reads.fails
  table_told (Err (Fault read.Endless)) (inl (at_no_end, came, reads, is)) = long_enough table_limit fills old new bytes told came reads
  table_told (Err (Fault read.Memory)) h = tt
  table_told result (inl (way, came, reads, is)) = absurd is
  table_told result (inr (is, same)) = subst (λ r. TableTold r) (sym is) tt

-- the source of a table was read to its end
pub found_table : (fills : ℕ) (old new : SourceState) (randoms : List ℕ) → ReadsTable fills old new (Ok randoms)
    → (came : List ℕ) × ReadsAll table_limit fills old new came × IsTableFile randoms came
found_table fills old new randoms (inl (at_end, came, reads, is)) = (came, reads, is)
found_table fills old new randoms (inl (way, came, reads, is)) = absurd is
found_table fills old new randoms (inr (is, same)) = absurd (cc is)

-- ---- of a source that doesn't fail and ends within the fills

module _ (fills : ℕ) (old new : SourceState) (bytes : List ℕ) (tells : Tells fills old new bytes) where
  -- nothing but want of memory comes in place of a book
  pub only_book : (entries : List Entry) → IsBookFile entries bytes → (result : Result (List Entry) BookError) → ReadsBook fills old new result
      → MatchResult result (λ book. book ≡ entries) (λ e. e ≡ Memory)
  only_book entries is result h = by result (book_told fills old new bytes tells.told result h)
    where
      by : (result : Result (List Entry) BookError) → BookTold fills old new bytes tells.told result → MatchResult result (λ book. book ≡ entries) (λ e. e ≡ Memory)
      by (Err Read) fails = absurd (cc (sym fails ∙ tells.works))
      by (Err Endless) many = absurd (omega (arith, many, tells.ends))
      by (Err Memory) h = refl
      by (Ok others) given = cc (one_book bytes (Ok others) (Ok entries) given is)
      by (Err (Unsorted n)) given = absurd (cc (one_book bytes (Err (Unsorted n)) (Ok entries) given is))
      by (Err (Cut n)) given = absurd (cc (one_book bytes (Err (Cut n)) (Ok entries) given is))

  -- nor in place of a table
  pub only_table : (randoms : List ℕ) → IsTableFile randoms bytes → (result : Result (List ℕ) TableFault) → ReadsTable fills old new result
      → MatchResult result (λ table. table ≡ randoms) (λ e. e ≡ Fault read.Memory)
  only_table randoms is result h = by result (table_told fills old new bytes tells.told result h)
    where
      by : (result : Result (List ℕ) TableFault) → TableTold fills old new bytes tells.told result → MatchResult result (λ table. table ≡ randoms) (λ e. e ≡ Fault read.Memory)
      by (Err (Fault read.Read)) fails = absurd (cc (sym fails ∙ tells.works))
      by (Err (Fault read.Endless)) many = absurd (omega (arith, many, tells.ends))
      by (Err (Fault read.Memory)) h = refl
      by (Ok others) given = cc (one_table bytes (Ok others) (Ok randoms) given is)
      by (Err Long) given = absurd (cc (one_table bytes (Err Long) (Ok randoms) given is))
      by (Err (Line n)) given = absurd (cc (one_table bytes (Err (Line n)) (Ok randoms) given is))
      by (Err (Count n)) given = absurd (cc (one_table bytes (Err (Count n)) (Ok randoms) given is))
