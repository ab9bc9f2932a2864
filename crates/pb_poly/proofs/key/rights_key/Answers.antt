use Rattle.std.proofs.Common.{sym}
use Rattle.pb_board.specs.Rights.{only_if}
use Rattle.pb_poly.proofs.Keys.{toggled_four}
use Rattle.pb_poly.proofs.key.rights_key.Goals as goal

pub returns : goal.returns
returns c =
    let r = c.args.rights in
    rw (c.random_if.ensures, c.random_if-2.ensures, c.random_if-3.ensures, c.random_if-4.ensures)
    (sym (toggled_four c.args.table.now 0 (only_if r.white_short 768) (only_if r.white_long 769) (only_if r.black_short 770) (only_if r.black_long 771)))
