use Rattle.std.proofs.Common.{◌≡◌, ◌%◌, ◌^◌, ◌∙◌, ap, sym, arith, w64}
use Rattle.std.specs.Int.{trailing_zeros}
use Rattle.std.proofs.lemmas.Bool.Decides.{Decides-eqb}
use Rattle.std.proofs.lemmas.Nat.{one_shl}
use Rattle.pb_board.proofs.Kings.{one_king_bit, stands_alone}
use Rattle.pb_board.proofs.setup_rules.has_one_king.Goals as goal

pub returns : goal.returns
returns c = λ b e.
    let kings = c.by_piece-kings.result in
    let low = trailing_zeros w64 kings in
    let shift = one_shl (low % 64) 64 (omega arith) in
    let same = Decides-eqb kings _ in (
      λ h. (low % 64, stands_alone b c.args.colour kings (λ q. c.by_piece-kings.ensures b q e) (low % 64) (same.0 h ∙ shift)),
      λ x.
          let bit = one_king_bit b c.args.colour kings (λ q. c.by_piece-kings.ensures b q e) c.by_piece-kings.type_inv x.0 x.1 in
          let small : low % 64 ≡ low = omega (arith, bit.0) in
          same.1 (bit.2 ∙ sym (shift ∙ ap (λ k. 2 ^ k) small)),
    )
