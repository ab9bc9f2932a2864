use Rattle.pb_accepted.proofs.WorkedBook as book
use Rattle.pb_accepted.proofs.laws.worked.Goals as goal

pub returns : goal.returns
returns c = record { reply = book.replied; table = book.table; book = book.book; bytes = book.bytes }
