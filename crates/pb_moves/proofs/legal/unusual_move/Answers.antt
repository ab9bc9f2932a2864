use Rattle.pb_moves.proofs.Usual.{king_unusual, none_unusual, pawn_unusual}
use Rattle.pb_moves.proofs.legal.unusual_move.Goals as goal

pub returns-in-Pawn : goal.returns-in-Pawn
returns-in-Pawn c = pawn_unusual c.args.setup.now c.args.m c.args.piece c.en_passant.result c.in-Pawn.is c.en_passant.ensures

pub returns-in-King : goal.returns-in-King
returns-in-King c = king_unusual c.args.setup.now c.args.m c.args.piece c.castles.result c.in-King.is c.castles.ensures

pub returns-in_default : goal.returns-in_default
returns-in_default c = none_unusual c.args.setup.now c.args.m c.args.piece c.in_default.not-Pawn c.in_default.not-King
