use Rattle.pb_moves.proofs.check.attacked.Goals as goal

pub returns : goal.returns
returns c = c.is_attacked.ensures c.args.setup.now.board c.sight_of.ensures
