use Rattle.std.proofs.Common.{◌≡◌, ◌-◌, ◌*◌, refl, sym, arith, ap, ◌∙◌, length, ◌++◌, drop}
use Rattle.std.proofs.lemmas.List.{length-take, length-drop, length-append}
use Rattle.pb_board.proofs.Boards.{board_start, at_row, row_turn, length-chunk, board_uncut, board_unread, board_last_unread, board_done}
use Rattle.pb_board.proofs.Unique.{none_spelled, placement_to}
use Rattle.pb_board.proofs.read.read_placement.Goals as goal

pub loop-row-init : goal.loop-row-init
loop-row-init c = board_start _ _ refl

pub returns-in_err-first : goal.returns-in_err-first
returns-in_err-first c =
    rw c.from_residual.ensures (none_spelled _ (board_uncut _ _ (6 - c.loop-row.row) _ (at_row _ _ _ _ _ c.loop-row.invariant (omega (arith, c.loop-row-test.true))) c.in_err-first.ensures))

pub returns-in_err-squares : goal.returns-in_err-squares
returns-in_err-squares c =
    rw c.from_residual-in_err-squares.ensures (none_spelled _ (board_unread _ _ (7 - c.loop-row.row) _ _ _ (at_row _ _ _ _ _ c.loop-row.invariant (omega (arith, c.loop-row-test.true))) (omega arith) c.in_ok-first.ensures c.in_err-squares.ensures))

pub loop-row-preserved : goal.loop-row-preserved
loop-row-preserved c =
    row_turn _ _ _ _ _ _ _ _ _ _ c.loop-row-test.true c.loop-row.invariant refl (omega (arith, c.loop-row-test.true)) c.in_ok-first.ensures c.copy_from_slice.ensures.after (c.copy_from_slice.ensures.len ∙ length-chunk (56 - 8 * c.loop-row.row) _ c.loop-row.board (omega (arith, c.loop-row.invariant.size, c.loop-row-test.true)) (omega (arith, c.loop-row-test.true))) c.in_ok-squares.ensures

pub returns-in_err-squares-2 : goal.returns-in_err-squares-2
returns-in_err-squares-2 c =
    rw c.from_residual-in_err-squares-2.ensures (none_spelled _ (board_last_unread _ _ _ (at_row _ _ _ _ _ c.loop-row.invariant (omega (arith, c.loop-row-test.false, c.loop-row.auto.row-end))) c.in_err-squares-2.ensures))

pub returns : goal.returns
returns c =
    let copied = c.copy_from_slice-2.ensures.after in
    let size = c.loop-row.invariant.size in
    let len : length c.copy_from_slice-2.new.self ≡ 8 = omega (arith, c.copy_from_slice-2.ensures.len, length-take 8 c.loop-row.board, size) in
    let whole : length (c.copy_from_slice-2.new.self ++ drop 8 c.loop-row.board) ≡ 64 = omega (arith, length-append c.copy_from_slice-2.new.self (drop 8 c.loop-row.board), length-drop 8 c.loop-row.board, size) in (
      whole,
      placement_to (c.copy_from_slice-2.new.self ++ drop 8 c.loop-row.board) _ ((board_done _ _ _ _ _ (at_row _ _ _ _ _ c.loop-row.invariant (omega (arith, c.loop-row-test.false, c.loop-row.auto.row-end))) (record { len = sym (ap length copied) ∙ len; same = c.in_ok-squares-2.ensures })
          whole (ap (λ w. w ++ drop 8 c.loop-row.board) copied) _ whole).1 refl),
    )
