use Rattle.std.proofs.Common.{◌≡◌, true, take}
use Rattle.std.specs.Io.KnownBytes.{Appends}
use Rattle.pb_io.specs.Sink.{Lasts}
use Rattle.pb_poly.specs.Book.{book_bytes}
use Rattle.pb_poly.proofs.book.write_book.Given as goal

-- the entries before this one have been put and not handed on
abbrev pub invariant-loop-entry : goal.invariant-loop-entry
invariant-loop-entry g l =
    let state = g.K.Sink.state in
    record {
      put : Appends (state l.initial.sink).bytes (state l.sink).bytes (book_bytes (take l.entry-index l.entry-items));
      works : (state l.initial.sink).failed ≡ true → (state l.sink).failed ≡ true;
      lasts : Lasts (state l.initial.sink).lasting (state l.sink).lasting;
      flushes : (state l.sink).flushes ≡ (state l.initial.sink).flushes;
    }
