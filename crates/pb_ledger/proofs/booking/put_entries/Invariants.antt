use Rattle.std.proofs.Common.{◌≡◌, List, ◌++◌}
use Rattle.std.specs.Slice.Iter.{chunks_rest, chunks_size}
use Rattle.pb_poly.specs.Book.{book_bytes}
use Rattle.pb_poly.specs.declared.book.Entry.{Entry}
use Rattle.pb_ledger.specs.Change.{between}
use Rattle.pb_ledger.specs.Booking.{PutsOn}
use Rattle.pb_ledger.proofs.booking.put_entries.Given as goal

-- the entries before those that are left were put
abbrev pub invariant-loop-some : goal.invariant-loop-some
invariant-loop-some g l =
    (put : List Entry) × (put ++ chunks_rest l.some-iterator ≡ l.entries) × (chunks_size l.some-iterator ≡ 64) × PutsOn (between g.K.Sink.state l.initial.sink l.sink) (book_bytes put)
