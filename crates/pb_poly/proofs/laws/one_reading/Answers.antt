use Rattle.pb_poly.proofs.OneBook.{one_book}
use Rattle.pb_poly.proofs.OneTable.{one_table}
use Rattle.pb_poly.proofs.laws.one_reading.Goals as goal

pub returns : goal.returns
returns c = record { book = one_book; table = one_table }
