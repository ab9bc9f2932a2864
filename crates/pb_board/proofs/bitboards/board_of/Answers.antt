use Rattle.std.proofs.Common.{◌≡◌, ℕ, ◌+◌, suc, arith, ap, ap₂, sym, ◌∙◌, slice_set}
use Rattle.pb_board.specs.Board.{Board, Place}
use Rattle.pb_board.proofs.BitboardBits.{started, started_all, started_more, started_none}
use Rattle.pb_board.proofs.bitboards.board_of.Goals as goal

pub loop-index-init : goal.loop-index-init
loop-index-init c = λ b full e. started_none 64 b full

pub loop-index-preserved : goal.loop-index-preserved
loop-index-preserved c = λ b full e.
    let i = c.loop-index.index in
    let more : i + 1 ≡ suc i = omega arith in
    ap₂ (λ (x : Board) (place : Place). slice_set x i place) (c.loop-index.invariant b full e) (c.piece_at.ensures b e)
    ∙ started_more i b ∙ sym (ap (λ (n : ℕ). started n b) more)

pub returns : goal.returns
returns c = λ b full e. c.loop-index.invariant b full e ∙ started_all c.loop-index.index b (let f = c.loop-index-test.false in omega arith)
