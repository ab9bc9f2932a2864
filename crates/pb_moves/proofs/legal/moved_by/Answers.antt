use Rattle.pb_moves.proofs.Usual.{usual_case, unusual_case}
use Rattle.pb_moves.proofs.legal.moved_by.Goals as goal

pub returns-in-Some : goal.returns-in-Some
returns-in-Some c = usual_case c.args.setup.now c.args.m c.args.piece _ c.in-Some.ensures

pub returns-in-None : goal.returns-in-None
returns-in-None c = unusual_case c.args.setup.now c.args.m c.args.piece c.unusual_move.result c.requires.own c.in-None.ensures c.unusual_move.ensures
