use Rattle.std.proofs.Common.{refl}
use Rattle.std.specs.Fmt.{digits}
use Rattle.pb_board.specs.Initial.{initial_board}
use Rattle.pb_moves.specs.Successor.{after}
use Rattle.pb_moves.proofs.WorkedMoves.{castled, e2e4_legal, fools_mate_legal, promoted}
use Rattle.pb_moves.proofs.laws.worked.Goals as goal

pub returns-clause-text : goal.returns-clause-text
unfolding initial_board after digits
returns-clause-text c = refl

pub returns-clause-legal : goal.returns-clause-legal
returns-clause-legal c = e2e4_legal

pub returns-clause-words : goal.returns-clause-words
returns-clause-words c = refl

pub returns-clause-mate : goal.returns-clause-mate
returns-clause-mate c = fools_mate_legal

pub returns-clause-castling : goal.returns-clause-castling
returns-clause-castling c = castled

pub returns-clause-pawns : goal.returns-clause-pawns
returns-clause-pawns c = promoted
