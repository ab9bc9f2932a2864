use Rattle.pb_board.specs.Refusal.{IsDueFen, fen_errors}
use Rattle.pb_board.proofs.Dues.{one_first}
use Rattle.pb_board.proofs.laws.one_refusal.Goals as goal

pub returns : goal.returns
returns c = λ texts. one_first (IsDueFen texts) fen_errors
