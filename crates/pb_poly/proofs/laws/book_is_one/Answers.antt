use Rattle.pb_poly.proofs.EntryBytes as entry_bytes
use Rattle.pb_poly.proofs.laws.book_is_one.Goals as goal

pub returns : goal.returns
returns c = record { entries = entry_bytes.book_is_one; bytes = entry_bytes.bytes_are_one }
