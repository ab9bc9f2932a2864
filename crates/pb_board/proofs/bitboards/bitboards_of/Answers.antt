use Rattle.std.proofs.Common.{◌≡◌, ℕ, ◌+◌, suc, arith, ap, sym, ◌∙◌}
use Rattle.pb_board.specs.Board.{Board}
use Rattle.pb_board.specs.Bitboards.{bitboards_of}
use Rattle.pb_board.proofs.BitboardBits.{bitboards_none, started, started_all, started_length, started_more, started_next}
use Rattle.pb_board.proofs.bitboards.bitboards_of.Goals as goal

pub loop-index-init : goal.loop-index-init
loop-index-init c = bitboards_none c.args.board.now

pub loop-index-preserved : goal.loop-index-preserved
loop-index-preserved c =
    let i = c.loop-index.index in
    let b = c.args.board.now in
    let more : i + 1 ≡ suc i = omega arith in
    c.set_down.ensures (started i b) (started_length i b ∙ c.told-board) c.loop-index.invariant (started_next i b)
    ∙ ap (λ (x : Board). bitboards_of x) (started_more i b ∙ sym (ap (λ (n : ℕ). started n b) more))

pub returns : goal.returns
returns c =
    let i = c.loop-index.index in
    let b = c.args.board.now in
    c.loop-index.invariant ∙ ap (λ (x : Board). bitboards_of x) (started_all i b (let f = c.loop-index-test.false in let full = c.told-board in omega arith))
