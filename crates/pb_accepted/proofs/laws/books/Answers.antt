use Rattle.pb_accepted.proofs.BookLaws.{one_book, same_book, same_count}
use Rattle.pb_accepted.proofs.laws.books.Goals as goal

pub returns : goal.returns
returns c = record { one = one_book; counts = same_count; members = same_book }
