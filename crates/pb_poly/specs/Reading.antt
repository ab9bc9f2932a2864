-- What reading a book gives.
use Rattle.std.specs.Prelude.{◌≡◌, ℕ, ◌<◌, ◌⊎◌, List, [], ◌∷◌, ◌++◌}
use Rattle.std.specs.Prelude.{All, Result, Ok, Err, length, Some, false}
use Rattle.pb_board.specs.Refusal.{BreaksAt}
use Rattle.pb_io.specs.Source.{SourceState}
use Rattle.pb_io.specs.Source.{chunk_len}
use Rattle.pb_poly.specs.declared.book.Entry.{Entry}
use Rattle.pb_poly.specs.declared.reading.BookError.{BookError}
use Rattle.pb_poly.specs.declared.reading.BookError.TheVariants.{Unsorted, Cut, Read}
use Rattle.pb_poly.specs.declared.reading.BookError.TheVariants.{Endless, Memory}
use Rattle.pb_poly.specs.Entry.{IsEntry}
use Rattle.pb_poly.specs.Book.{BookBytes, IsBookFile, NeverFall, book_bytes}
use Rattle.pb_poly.specs.Streams.{ReadsTo, Extent, at_end, at_fault, at_no_end, so_far}

-- the bytes are those of these entries, whose keys never fall, and less than a whole entry
pub record Splits (came : List ℕ) (entries : List Entry) (part : List ℕ) : Type 0 where
  pub bounds : All IsEntry entries
  pub bytes : came ≡ book_bytes entries ++ part
  pub partial : length part < 16
  pub ordered : NeverFall entries

-- the bytes of a book, read in this way, come to these entries or to this fault
abbrev pub BookIs : Extent → List ℕ → Result (List Entry) BookError → Type 0
BookIs at_end bytes (Ok entries) = IsBookFile entries bytes
BookIs so_far bytes (Err (Unsorted n)) =
    (entries : List Entry) × BookBytes entries bytes × BreaksAt NeverFall entries n
BookIs at_end bytes (Err (Cut n)) = (entries : List Entry) × (part : List ℕ)
    × Splits bytes entries part × (0 < n) × (n ≡ length part)
BookIs at_fault bytes (Err Read) =
    (entries : List Entry) × (part : List ℕ) × Splits bytes entries part
BookIs at_no_end bytes (Err Endless) =
    (entries : List Entry) × (part : List ℕ) × Splits bytes entries part
BookIs so_far bytes (Err Memory) =
    (before : List Entry) × (entry : Entry) × IsBookFile (before ++ entry ∷ []) bytes
BookIs way bytes result = ⊥

-- after the bytes that came, the entry that a front of the chunk makes whole gives this fault
abbrev pub FailsWithin : List ℕ → List ℕ → BookError → Type 0
FailsWithin came chunk e = (front : List ℕ) × (rest : List ℕ) × (chunk ≡ front ++ rest)
    × BookIs so_far (came ++ front) (Err e)

-- the bytes, all of them, come to these entries, or to one of the two faults that bytes alone can
-- give
abbrev pub AsBook : List ℕ → Result (List Entry) BookError → Type 0
AsBook bytes (Err (Unsorted n)) =
    (front : List ℕ) × (rest : List ℕ) × (bytes ≡ front ++ rest)
    × BookIs so_far front (Err (Unsorted n))
AsBook bytes result = BookIs at_end bytes result

-- reading a book gives this; for want of memory at the start nothing is read
abbrev pub ReadsBook : ℕ → SourceState → SourceState → Result (List Entry) BookError → Type 0
ReadsBook fills old new result =
    ((way : Extent) × (bytes : List ℕ) × ReadsTo way chunk_len fills old new bytes
    × BookIs way bytes result)
    ⊎ ((result ≡ Err Memory) × (new ≡ old))

-- the source tells that just these bytes come, it doesn't fail, and the fills are more than the
-- bytes
pub record Tells (fills : ℕ) (old new : SourceState) (bytes : List ℕ) : Type 0 where
  pub told : old.to_come ≡ Some bytes
  pub works : new.failed ≡ false
  pub ends : length bytes < fills
