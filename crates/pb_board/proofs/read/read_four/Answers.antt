use Rattle.std.proofs.Common.{rules, take}
use Rattle.std.proofs.lemmas.Result.{err_from_is_err_and}
use Rattle.pb_board.specs.declared.refusal.FenError.TheVariants as refusal
use Rattle.pb_board.specs.FourFields.{SpellFour}
use Rattle.pb_board.specs.Position.{position_of}
use Rattle.pb_board.specs.Refusal.{of_setup}
use Rattle.pb_board.proofs.Answered.{err_or}
use Rattle.pb_board.proofs.Dues.{IsFirstDue}
use Rattle.pb_board.proofs.Fens.{of_four, spell_four}
use Rattle.pb_board.proofs.Firsts.{castling_first, en_passant_text_first, placement_first, turn_first}
use Rattle.pb_board.proofs.read.read_four.Goals as goal

pub returns-in_err-board : goal.returns-in_err-board
returns-in_err-board c =
    let p = err_from_is_err_and c.from_residual.result c.from_residual.ensures.1 in
    let none = rw c.in_err-board.ensures.ok_part at c.read_placement.ensures in
    rw (p.1, p.2, err_or _ _ _ c.in_err-board.ensures.value) (of_four (IsFirstDue (take 4 of_setup) refusal.Placement) c.args.four _ (search rules) (placement_first _ _ _ _ none))

pub returns-in_err-turn : goal.returns-in_err-turn
returns-in_err-turn c =
    let p = err_from_is_err_and c.from_residual-in_err-turn.result c.from_residual-in_err-turn.ensures.1 in
    let placement = rw c.in_ok-board.ensures.ok_part at c.read_placement.ensures in
    let none = rw c.in_err-turn.ensures.ok_part at c.read_turn.ensures in
    rw (p.1, p.2, err_or _ _ _ c.in_err-turn.ensures.value) (of_four (IsFirstDue (take 4 of_setup) refusal.Turn) c.args.four _ (search rules) (turn_first _ _ _ _ _ placement none))

pub returns-in_err-rights : goal.returns-in_err-rights
returns-in_err-rights c =
    let p = err_from_is_err_and c.from_residual-in_err-rights.result c.from_residual-in_err-rights.ensures.1 in
    let placement = rw c.in_ok-board.ensures.ok_part at c.read_placement.ensures in
    let turn = rw c.in_ok-turn.ensures.ok_part at c.read_turn.ensures in
    let none = rw c.in_err-rights.ensures.ok_part at c.read_rights.ensures in
    rw (p.1, p.2, err_or _ _ _ c.in_err-rights.ensures.value) (of_four (IsFirstDue (take 4 of_setup) refusal.Castling) c.args.four _ (search rules) (castling_first _ _ _ _ _ placement _ turn none))

pub returns-in_err-ep : goal.returns-in_err-ep
returns-in_err-ep c =
    let p = err_from_is_err_and c.from_residual-in_err-ep.result c.from_residual-in_err-ep.ensures.1 in
    let placement = rw c.in_ok-board.ensures.ok_part at c.read_placement.ensures in
    let turn = rw c.in_ok-turn.ensures.ok_part at c.read_turn.ensures in
    let rights = rw c.in_ok-rights.ensures.ok_part at c.read_rights.ensures in
    let none = rw c.in_err-ep.ensures.ok_part at c.read_en_passant.ensures in
    rw (p.1, p.2, err_or _ _ _ c.in_err-ep.ensures.value)
    (of_four (IsFirstDue (take 4 of_setup) refusal.EnPassantText) c.args.four _ (search rules) (en_passant_text_first _ _ _ _ _ placement _ turn c.in_ok-rights.rights rights none))

pub returns : goal.returns
returns c =
    let placement = rw c.in_ok-board.ensures.ok_part at c.read_placement.ensures in
    let turn = rw c.in_ok-turn.ensures.ok_part at c.read_turn.ensures in
    let rights = rw c.in_ok-rights.ensures.ok_part at c.read_rights.ensures in
    let ep = rw c.in_ok-ep.ensures.ok_part at c.read_en_passant.ensures in
    let p = position_of c.in_ok-board.board c.in_ok-turn.turn c.in_ok-rights.rights c.in_ok-ep.ep in
    (p, of_four (SpellFour p) c.args.four _ (search rules) (spell_four _ _ _ _ p placement turn rights ep), c.build.ensures)
