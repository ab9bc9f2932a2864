use Rattle.std.proofs.Common.{◌≡◌, arith, length, subst, sym}
use Rattle.pb_moves.proofs.Spellings.{Reads, four_spelled, five_spelled, five_unspelled}
use Rattle.pb_moves.proofs.moves.read_move.Goals as goal

pub returns-in-len4 : goal.returns-in-len4
returns-in-len4 c =
    let four : length c.args.text.now ≡ 4 = omega (arith, c.in-len4.len_at_least, c.in-len4.len_below) in
    four_spelled c.args.text.now _ four c.read_plain.ensures

pub returns-in_err-plain-in-len5 : goal.returns-in_err-plain-in-len5
returns-in_err-plain-in-len5 c =
    let five : length c.args.text.now ≡ 5 = omega (arith, c.in-len5.len_at_least, c.in-len5.len_below) in
    subst (λ r. Reads c.args.text.now r) (sym c.from_residual.ensures) (five_unspelled c.args.text.now five c.in_err-plain-in-len5.ensures)

pub returns-in_ok-promotion-in-len5 : goal.returns-in_ok-promotion-in-len5
returns-in_ok-promotion-in-len5 c =
    let five : length c.args.text.now ≡ 5 = omega (arith, c.in-len5.len_at_least, c.in-len5.len_below) in
    let plain = c.in_ok-plain-in-len5.ensures in
    five_spelled c.args.text.now c.in_ok-plain-in-len5.plain c.in_ok-promotion-in-len5.promotion _ _ _ five plain.0 plain.1 c.in_ok-promotion-in-len5.ensures
    c.from.ensures.value c.to.ensures.value c.new.ensures.made
