use Rattle.std.proofs.Common.{ℕ, ◌≡◌, ◌%◌, arith, ◌∙◌, w64}
use Rattle.std.specs.Int.{trailing_zeros}
use Rattle.pb_board.proofs.Kings.{one_king_bit}
use Rattle.pb_board.proofs.setup_rules.only_king.Goals as goal

pub returns : goal.returns
returns c = λ b king e only.
    let kings = c.by_piece-kings.result in
    let bit = one_king_bit b c.args.colour kings (λ (q : ℕ). c.by_piece-kings.ensures b q e) c.by_piece-kings.type_inv king only in
    let found = rw c.unwrap.ensures at c.from_index.ensures in
    let within : trailing_zeros w64 kings % 64 ≡ trailing_zeros w64 kings = omega (arith, bit.0) in
    found.1 ∙ within ∙ bit.1
