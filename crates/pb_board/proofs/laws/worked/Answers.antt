use Rattle.pb_board.proofs.InitialText.{initial_bounds, initial_text}
use Rattle.pb_board.proofs.laws.worked.Goals as goal

pub returns : goal.returns
returns c = record { is_record = initial_bounds; text = initial_text }
