-- Where a king stands alone, told by a number of one bit, and pawns at the edge, square by square.
use Rattle.std.proofs.Common.{◌≡◌, ℕ, ◌*◌, ◌-◌, ◌<◌, ◌^◌, ◌↔◌, ◌⊎◌, length, None, ap, refl, sym, subst, ◌∙◌, inl, inr, arith, bit_and, w64}
use Rattle.std.proofs.Math.Pow.{pow-lt}
use Rattle.std.specs.Int.{bit_at, trailing_zeros}
use Rattle.std.proofs.lemmas.Bool.{cases_lt}
use Rattle.std.proofs.lemmas.List.{get_or_past}
use Rattle.std.proofs.lemmas.Nat.{and_le_l, pow_pos}
use Rattle.std.proofs.lemmas.Nat.Bits.{bit_at-zero, bit_at_above, bit_at_and, bit_at_cat_high, bit_at_cat_low, bit_at_ones, bit_at-lt, bit_at-pow_other, bit_at-pow_same, bit_at-trailing_zeros, same_from_bits_below}
use Rattle.pb_board.specs.declared.piece.Colour.{Colour}
use Rattle.pb_board.specs.declared.piece.Colour.TheVariants.{White, Black}
use Rattle.pb_board.specs.declared.piece.Piece.{Piece}
use Rattle.pb_board.specs.Piece.{king_of, opponent, pawn_of}
use Rattle.pb_board.specs.Board.{Board, Holds, rank}
use Rattle.pb_board.specs.Position.{HasKings, HasNoEdgePawn, IsOnlyKing}
use Rattle.pb_board.proofs.BitboardBits.{same_or_not}

-- what holds a piece is on the board
pub holds_on_board : (board : Board) (q : ℕ) (piece : Piece) → Holds board q piece → q < length board
holds_on_board board q piece holds =
    elim (cases_lt q (length board)) [
      | inl less ↦ less
      | inr past ↦ absurd cc (get_or_past board q None past, holds)
    ]

-- a king stands alone who stands here, and nowhere else
pub only_king : (board : Board) (side : Colour) (k : ℕ) → Holds board k (king_of side) → ((q : ℕ) → Holds board q (king_of side) → q ≡ k) → IsOnlyKing board side k
only_king board side k here nowhere_else q = (nowhere_else q, λ e. subst (λ x. Holds board x (king_of side)) (sym e) here)

-- the kings of both sides, from that of one and that of the other
pub both_kings : (board : Board) (side : Colour) (own enemy : ℕ) → IsOnlyKing board side own → IsOnlyKing board (opponent side) enemy → HasKings board
both_kings board White own enemy h k White = (own, h)
both_kings board White own enemy h k Black = (enemy, k)
both_kings board Black own enemy h k White = (enemy, k)
both_kings board Black own enemy h k Black = (own, h)

module _ (board : Board) (side : Colour) (kings : ℕ) (told : (q : ℕ) → (bit_at kings q ≡ 1) ↔ Holds board q (king_of side)) where
  -- a number with the one bit of a square is that of a king who stands there alone
  pub stands_alone : (square : ℕ) → kings ≡ 2 ^ square → IsOnlyKing board side square
  stands_alone square e =
      only_king board side square ((told square).0 (ap (λ n. bit_at n square) e ∙ bit_at-pow_same square)) (λ q h. elim (same_or_not q square) [
        | inl is ↦ is
        | inr apart ↦ absurd (omega (arith, (told q).1 h, ap (λ n. bit_at n q) e, bit_at-pow_other square q apart))
      ])

  -- the bit of a king who stands alone is the only one
  alone_is_a_bit : kings < 2 ^ 64 → (square : ℕ) → IsOnlyKing board side square → (square < 64) × (kings ≡ 2 ^ square)
  alone_is_a_bit small square only =
      let here = (told square).1 ((only square).1 refl) in
      let on : square < 64 = elim (cases_lt square 64) [
        | inl less ↦ less
        | inr past ↦ absurd (omega (arith, here, bit_at_above kings 64 square small past))
      ] in (
        on,
        same_from_bits_below 64 kings (2 ^ square) small (pow-lt on) (λ q within. elim (same_or_not q square) [
          | inl is ↦ subst (λ k. bit_at kings k ≡ bit_at (2 ^ square) k) (sym is) (here ∙ sym (bit_at-pow_same square))
          | inr apart ↦ elim (cases_lt (bit_at kings q) 1) [
            | inl none ↦ omega (arith, none, bit_at-pow_other square q apart)
            | inr one ↦ absurd (apart ((only q).0 ((told q).0 (omega (arith, one, bit_at-lt kings q)))))
          ]
        ]),
      )

  -- so the lowest bit is it
  pub one_king_bit : kings < 2 ^ 64 → (square : ℕ) → IsOnlyKing board side square → (trailing_zeros w64 kings < 64) × (trailing_zeros w64 kings ≡ square) × (kings ≡ 2 ^ trailing_zeros w64 kings)
  one_king_bit small square only =
      let bit = alone_is_a_bit small square only in
      let lowest = bit_at-trailing_zeros w64 kings (subst (λ n. 0 < n) (sym bit.1) (pow_pos square)) small in
      let is : trailing_zeros w64 kings ≡ square = (only (trailing_zeros w64 kings)).0 ((told (trailing_zeros w64 kings)).0 lowest.1) in
      (lowest.0, is, bit.1 ∙ ap (λ k. 2 ^ k) (sym is))

-- the squares of ranks 1 and 8, as a number
abbrev edge_ranks : ℕ
edge_ranks = 18374686479671623935

IsInside : ℕ → Type 0
IsInside q = (0 < rank q) × (rank q < 7)

edge_bit : (q : ℕ) → q < 64 → ((bit_at edge_ranks q ≡ 1) × ¬ IsInside q) ⊎ ((bit_at edge_ranks q ≡ 0) × IsInside q)
unfolding IsInside
edge_bit q on =
    elim (cases_lt q 8) [
      | inl low ↦ inl (bit_at_cat_low (255 * 2 ^ 48) 8 255 q low ∙ bit_at_ones 8 q low, λ inside. omega (arith, inside.0))
      | inr above ↦
          let high = bit_at_cat_high (255 * 2 ^ 48) 8 255 q (omega arith) above in
          elim (cases_lt q 56) [
            | inl between ↦ inr (high ∙ bit_at_cat_low 255 48 0 (q - 8) (omega arith) ∙ bit_at-zero (q - 8), (omega arith, omega arith))
            | inr edge ↦ inl (high ∙ bit_at_cat_high 255 48 0 (q - 8) (omega arith) (omega arith) ∙ bit_at_ones 8 (q - 8 - 48) (omega arith), λ inside. omega (arith, inside.1))
          ]
    ]

module _ (board : Board) (pawns : ℕ) (full : length board ≡ 64) (told : (q : ℕ) → (bit_at pawns q ≡ 1) ↔ ((c : Colour) × Holds board q (pawn_of c))) where
  pub no_edge_pawn : bit_and pawns edge_ranks ≡ 0 → HasNoEdgePawn board
  unfolding IsInside
  no_edge_pawn none q side h =
      let both = sym (bit_at_and pawns edge_ranks q) ∙ ap (λ n. bit_at n q) none ∙ bit_at-zero q in
      elim (edge_bit q (omega (arith, holds_on_board board q (pawn_of side) h, full))) [
        | inl edge ↦ absurd (omega (arith, (told q).1 (side, h), both, edge.0))
        | inr inside ↦ inside.1
      ]

  pub no_edge_bit : pawns < 2 ^ 64 → HasNoEdgePawn board → bit_and pawns edge_ranks ≡ 0
  unfolding IsInside
  no_edge_bit small inside =
      same_from_bits_below 64 (bit_and pawns edge_ranks) 0 (omega (arith, and_le_l pawns edge_ranks)) (omega arith) (λ q on.
      let both = bit_at_and pawns edge_ranks q in
      let nothing = bit_at-zero q in
      elim (edge_bit q on) [
        | inl edge ↦ elim (cases_lt (bit_at pawns q) 1) [
          | inl none ↦ omega arith
          | inr one ↦ absurd (let pawn = (told q).0 (omega (arith, bit_at-lt pawns q)) in edge.1 (inside q pawn.0 pawn.1))
        ]
        | inr between ↦ omega (arith, between.0)
      ])
