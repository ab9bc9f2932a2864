use Rattle.pb_board.proofs.Cuts.{first_piece, one_piece, rest_at}
use Rattle.pb_board.proofs.fields.cut_once.Goals as goal

pub returns-in_err-at : goal.returns-in_err-at
returns-in_err-at c = rw c.from_residual.ensures (one_piece _ _ c.in_err-at.ensures)

pub returns : goal.returns
returns c = rw rest_at (first_piece _ _ _ c.in_ok-at.ensures)
