use Rattle.std.proofs.Common.{arith, ap, ◌∙◌, Some, None, slice_set}
use Rattle.std.proofs.lemmas.List.{get_or-set_same, length-set, set-set}
use Rattle.pb_board.specs.Board.{Board}
use Rattle.pb_board.specs.Bitboards.{bitboards_of}
use Rattle.pb_board.proofs.bitboards.move_piece.Goals as goal

pub returns : goal.returns
returns c = λ b full e.
    let moved = c.args.moved in
    let left = slice_set b moved.from None in
    let left_full = length-set b moved.from None ∙ full in
    let both_full = length-set left moved.to None ∙ left_full in
    let none = rw (c.index-2.ensures.value) at (c.clear-2.ensures left left_full (rw c.index.ensures.value at (c.clear.ensures b full e))) in
    rw c.index-3.ensures.value at (c.set_down.ensures (slice_set left moved.to None) both_full none (rw c.index-3.ensures.value (get_or-set_same left moved.to None None (omega arith))))
    ∙ ap (λ (x : Board). bitboards_of x) (set-set left moved.to None (Some moved.piece))
