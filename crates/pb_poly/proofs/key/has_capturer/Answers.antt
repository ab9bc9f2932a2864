use Rattle.std.proofs.Common.{arith}
use Rattle.pb_poly.proofs.Capturers.{capturer_told}
use Rattle.pb_poly.proofs.key.has_capturer.Goals as goal

pub returns : goal.returns
returns c = capturer_told c.args.setup.now.board c.args.side c.args.pawn c.beside.result c.by_piece.result (omega arith) c.requires c.beside.ensures c.by_piece.ensures
