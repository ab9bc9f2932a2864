use Rattle.std.proofs.Common.{◌≡◌, ℕ, ◌/◌, ◌%◌, ◌*◌, ◌^◌, refl, ap, ◌∙◌, bit_and, arith, eq-eqb, eqb-true, lit≤}
use Rattle.std.proofs.lemmas.Nat.{and_le_l, and_mod, and_shr}
use Rattle.std.proofs.lemmas.Nat.Bits.{and_high_mask}
use Rattle.pb_moves.proofs.moves.are_below_8.Goals as goal

abbrev masked : ℕ → ℕ
masked n = bit_and n 4177066232

-- of each byte all but its three lowest bits
byte : (n k : ℕ) → 4177066232 / 2 ^ k % 2 ^ 8 ≡ 248 → masked n / 2 ^ k % 2 ^ 8 ≡ n / 2 ^ k % 2 ^ 8 / 2 ^ 3 * 2 ^ 3
byte n k here =
    ap (λ m. m % 2 ^ 8) (and_shr n 4177066232 k) ∙ and_mod (n / 2 ^ k) (4177066232 / 2 ^ k) 8 ∙ ap (bit_and (n / 2 ^ k % 2 ^ 8)) here
    ∙ and_high_mask 8 3 (lit≤ tt) (n / 2 ^ k % 2 ^ 8) (omega arith)

pub returns : goal.returns
returns c =
    let n = c.args.bytes in
    let first = byte n 0 refl in
    let second = byte n 8 refl in
    let third = byte n 16 refl in
    let fourth = byte n 24 refl in
    let less = and_le_l n 4177066232 in (
      λ test.
          let none : masked n ≡ 0 = eqb-true _ 0 test in
          (omega (arith, none, first), omega (arith, none, second), omega (arith, none, third), omega (arith, none, fourth, c.ranges.bytes)),
      λ each. eq-eqb (masked n) 0 (omega (arith, first, second, third, fourth, less, c.ranges.bytes, each)),
    )
