use Rattle.std.proofs.Common.{◌≡◌, ◌*◌, take}
use Rattle.pb_poly.specs.Book.{book_bytes}
use Rattle.pb_poly.proofs.book.write_entries.Given as goal

-- the bytes of the entries before this one stand in front
abbrev pub invariant-loop-entry : goal.invariant-loop-entry
invariant-loop-entry g l = (take l.len l.room ≡ book_bytes (take l.entry-index l.entries)) × (l.len ≡ 16 * l.entry-index)
