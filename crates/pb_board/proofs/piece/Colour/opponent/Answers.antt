use Rattle.std.proofs.Common.{rules}
use Rattle.pb_board.proofs.piece.Colour.opponent.Goals as goal

pub returns-in-White : goal.returns-in-White
returns-in-White c = search rules
