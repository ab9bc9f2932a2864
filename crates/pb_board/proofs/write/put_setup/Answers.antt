use Rattle.pb_board.proofs.Writes.{setup_short, setup_written}
use Rattle.pb_board.proofs.write.put_setup.Goals as goal

pub returns-clause-short : goal.returns-clause-short
returns-clause-short c =
    setup_short c.args.setup.now c.rights.result c.ep.result c.rights.ensures c.ep.ensures.value c.put_placement.ensures.short c.put_rights.ensures.short c.put_en_passant.ensures.short

pub returns-clause-text : goal.returns-clause-text
returns-clause-text c =
    setup_written c.args.setup.now _ _ _ _ _ _ _ _ c.turn.result c.rights.result c.ep.result c.turn.ensures.value c.rights.ensures c.ep.ensures.value c.put_placement.ensures.text
    c.push.ensures c.put_turn.ensures c.push-2.ensures c.put_rights.ensures.text c.push-3.ensures c.put_en_passant.ensures.text
