use Rattle.pb_moves.proofs.Changing.{safe_test}
use Rattle.pb_moves.proofs.legal.is_safe.Goals as goal

pub sight_after-sight-requires : goal.sight_after-sight-requires
sight_after-sight-requires c = (c.args.m, (c.args.piece, c.requires.own), c.requires.leads.1.0)

pub returns : goal.returns
returns c =
    safe_test c.args.setup.now c.args.m c.args.moved c.turn.result c.opponent-enemy.result c.king_after.result c.sight_after-sight.result c.is_attacked.result
    c.requires.leads c.turn.ensures.value c.opponent-enemy.ensures c.king_after.ensures c.sight_after-sight.ensures c.is_attacked.ensures
