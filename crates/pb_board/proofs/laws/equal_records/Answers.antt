use Rattle.pb_board.proofs.Equal as equal
use Rattle.pb_board.proofs.laws.equal_records.Goals as goal

pub returns : goal.returns
returns c = record { records = equal.records; texts = equal.texts 93 }
