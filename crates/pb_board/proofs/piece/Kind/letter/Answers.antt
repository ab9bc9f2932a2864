use Rattle.std.proofs.Common.{rules, refl}
use Rattle.pb_board.proofs.piece.Kind.letter.Goals as goal

pub returns-in-Queen : goal.returns-in-Queen
returns-in-Queen c = search rules

pub returns-in-King : goal.returns-in-King
returns-in-King c = rw c.in-King.is refl
