-- The initial array before the first move: it is a record, and this is its text.
use Rattle.std.proofs.Common.{◌≡◌, refl, arith}
use Rattle.std.specs.Prelude.{codes}
use Rattle.std.specs.Fmt.{digits}
use Rattle.pb_board.specs.Initial.{initial, initial_board}
use Rattle.pb_board.specs.Position.{IsRecord, record_of}
use Rattle.pb_board.specs.Text.{fen_text}
use Rattle.pb_board.proofs.Starts.{initial_rules}

pub initial_text : fen_text (record_of initial 0 1) ≡ codes "rnbqkbnr/pppppppp/8/8/8/8/PPPPPPPP/RNBQKBNR w KQkq - 0 1"
unfolding initial_board digits
initial_text = refl

pub initial_bounds : IsRecord (record_of initial 0 1)
initial_bounds = record { setup = initial_rules _; half = omega arith; low = omega arith; full = omega arith }
