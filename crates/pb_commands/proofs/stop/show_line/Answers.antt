use Rattle.std.proofs.lemmas.Result.{err_from_is_err_and}
use Rattle.pb_commands.proofs.PutsInTurn.{not_handed_on}
use Rattle.pb_commands.proofs.stop.show_line.Goals as goal

pub returns-in_err-flush : goal.returns-in_err-flush
returns-in_err-flush g c =
    let p = err_from_is_err_and c.from_residual-in_err-flush.result c.from_residual-in_err-flush.ensures.1 in
    rw (p.1, p.2) (not_handed_on _ _ _ _ _ c.in_ok-put_pieces.ensures.all c.in_ok-put_pieces.ensures.flushes c.in_err-flush.ensures)
