use Rattle.std.proofs.Common.{rules, arith, sym, ◌∙◌, ◌≢◌}
use Rattle.std.proofs.lemmas.Grind.{common_steps}
use Rattle.pb_board.specs.declared.setup.Rights.{Rights}
use Rattle.pb_board.proofs.Spelled.{castling_is, flag_letters, or_dash}
use Rattle.pb_board.proofs.read.read_rights.Goals as goal

pub returns : goal.returns
returns c = grind (arith, common_steps)

pub returns-then-is_empty : goal.returns-then-is_empty
returns-then-is_empty c =
    let none : (rights : Rights) → c.args.text.now ≢ or_dash (flag_letters rights) = search rules in
    λ rights e. none rights (e ∙ sym (castling_is rights))
