use Rattle.std.proofs.lemmas.Bool.Decides.{Decides-eqb}
use Rattle.pb_board.proofs.Equal as equal
use Rattle.pb_board.proofs.laws.equal_pieces.Goals as goal

pub returns : goal.returns
returns c = record { squares = Decides-eqb; colours = equal.colours; kinds = equal.kinds; pieces = equal.pieces; moved = equal.moved }
