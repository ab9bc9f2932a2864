-- What is judged of a source that tells its bytes.
use Rattle.std.proofs.Common.{◌≡◌, ℕ, Bool, List, Ok, Err, Some}
use Rattle.pb_io.specs.Source.{SourceState}
use Rattle.pb_poly.proofs.Told.{book_told, table_told}
use Rattle.pb_poly.specs.Reading.{AsBook, ReadsBook}
use Rattle.pb_poly.specs.TableReading.{AsTable, ReadsTable}
use Rattle.pb_poly.specs.declared.reading.BookError.{BookError}
use Rattle.pb_poly.specs.declared.reading.BookError.TheVariants as book
use Rattle.pb_poly.specs.declared.table.TableFault.{TableFault}
use Rattle.pb_poly.specs.declared.table.TableFault.TheVariants as table
use Rattle.pb_commands.specs.Judged.{book_verdict, TextsAreOf, table_verdict}
use Rattle.pb_commands.specs.BookShown.{BookShown}

module _ (fills : ℕ) (old new : SourceState) (bytes : List ℕ) (told : old.to_come ≡ Some bytes) where
  -- where a text is put, the bytes give it
  pub told_no_book : (e : BookError) (x : Bool × List ℕ) → Ok x ≡ book_verdict e → ReadsBook fills old new (Err e) → AsBook bytes (Err e)
  told_no_book (book.Unsorted n) x is h = book_told fills old new bytes told (Err (book.Unsorted n)) h
  told_no_book (book.Cut n) x is h = book_told fills old new bytes told (Err (book.Cut n)) h
  told_no_book e x is h = absurd (cc is)

  pub told_no_table : (e : TableFault) (x : Bool × List ℕ) → Ok x ≡ table_verdict e → ReadsTable fills old new (Err e) → AsTable bytes (Err e)
  told_no_table table.Long x is h = table_told fills old new bytes told (Err table.Long) h
  told_no_table (table.Line n) x is h = table_told fills old new bytes told (Err (table.Line n)) h
  told_no_table (table.Count n) x is h = table_told fills old new bytes told (Err (table.Count n)) h
  told_no_table (table.Fault fault) x is h = absurd (cc is)

  pub told_shown : TextsAreOf (BookShown (ReadsBook fills old new)) (BookShown (AsBook bytes))
  told_shown text (Ok entries, h, is) = (Ok entries, book_told fills old new bytes told (Ok entries) h, is)
  told_shown text (Err e, h, is) = (Err e, told_no_book e text is h, is)
