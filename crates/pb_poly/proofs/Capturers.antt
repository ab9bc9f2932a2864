-- The pawns beside a square, by a test of its two neighbours and by a set.
use Rattle.std.proofs.Common.{◌≡◌, ◌≢◌, ℕ, ◌+◌, ◌-◌, ◌*◌, ◌/◌, ◌%◌, ◌^◌, ◌<◌, ◌⊎◌, ◌↔◌, inl, inr, Bool, true, false, not, ◌&&◌, ◌||◌, ◌==◌, eqb, Some, refl, sym, subst, arith, bit_and, bit_or}
use Rattle.std.specs.Int.{bit_at}
use Rattle.std.proofs.lemmas.Bool.{and_parts, cases_lt, eq-eqb, eqb-true}
use Rattle.std.proofs.lemmas.Bool.Decides.{nat_tests}
use Rattle.std.proofs.lemmas.Nat.{and_le_l}
use Rattle.pb_board.specs.declared.piece.Colour.{Colour}
use Rattle.pb_board.specs.declared.piece.Kind.TheVariants.{Pawn}
use Rattle.pb_board.specs.Piece.{piece_of}
use Rattle.pb_board.specs.Board.{Board, Holds, Place, at, file, rank, is_piece}
use Rattle.pb_board.proofs.PieceTests.{is_piece-is, is_piece-passes}
use Rattle.pb_moves.specs.Attacks.{files_apart}
use Rattle.pb_moves.proofs.Sets.{in_and, in_both, in_none, in_some}
use Rattle.pb_moves.proofs.Targets.{bit_tells, both, is_right}
use Rattle.pb_poly.specs.Key.{has_capturer}

there_pawn : (side : Colour) (content : Place) → content ≡ Some (piece_of side Pawn) → is_piece (piece_of side Pawn) content ≡ true
there_pawn side content h = let P : Place → Type 0 = λ x. is_piece (piece_of side Pawn) x ≡ true in subst P (sym h) (is_piece-passes (piece_of side Pawn))

either_true : (a b : Bool) → (a || b) ≡ true → (a ≡ true) ⊎ (b ≡ true)
either_true true b h = inl refl
either_true false b h = inr h

true_left : (a b : Bool) → a ≡ true → (a || b) ≡ true
true_left true b h = refl
true_left false b h = absurd (cc)

true_right : (a b : Bool) → b ≡ true → (a || b) ≡ true
true_right true b h = refl
true_right false b h = h

both_true : (a b : Bool) → a ≡ true → b ≡ true → (a && b) ≡ true
both_true true b h k = k
both_true false b h k = absurd (cc)

other_than : (n m : ℕ) → not (n == m) ≡ true → n ≢ m
other_than n m h = grind (arith, nat_tests)

tells_other : (n m : ℕ) → n ≢ m → not (n == m) ≡ true
tells_other n m h = grind (arith, nat_tests)

rank_before : (pawn : ℕ) → pawn % 8 ≢ 0 → rank (pawn - 1) ≡ rank pawn
rank_before pawn inside = omega arith

file_before : (pawn : ℕ) → pawn % 8 ≢ 0 → files_apart (pawn - 1) pawn ≡ 1
file_before pawn inside = omega arith

rank_next : (pawn : ℕ) → pawn % 8 ≢ 7 → rank (pawn + 1) ≡ rank pawn
rank_next pawn inside = omega arith

file_next : (pawn : ℕ) → pawn % 8 ≢ 7 → files_apart (pawn + 1) pawn ≡ 1
file_next pawn inside = omega arith

beside_either : (capturer pawn : ℕ) → rank capturer ≡ rank pawn → files_apart capturer pawn ≡ 1 → ((capturer ≡ pawn - 1) × (file pawn ≢ 0)) ⊎ ((capturer ≡ pawn + 1) × (file pawn ≢ 7))
beside_either capturer pawn same next = elim (cases_lt capturer pawn) [
  | inl low ↦ inl (omega arith, λ e. omega (arith, e))
  | inr high ↦ inr (omega arith, λ e. omega (arith, e))
]

pub capturer_there : (board : Board) (side : Colour) (pawn : ℕ) → has_capturer board side pawn ≡ true
    → (q : ℕ) × Holds board q (piece_of side Pawn) × (rank q ≡ rank pawn) × (files_apart q pawn ≡ 1)
capturer_there board side pawn h =
    elim (either_true (not (file pawn == 0) && is_piece (piece_of side Pawn) (at board (pawn - 1))) (not (file pawn == 7) && is_piece (piece_of side Pawn) (at board (pawn + 1))) h) [
      | inl left ↦
          let parts = and_parts (not (file pawn == 0)) (is_piece (piece_of side Pawn) (at board (pawn - 1))) left in
          let inside : pawn % 8 ≢ 0 = other_than (file pawn) 0 parts.0 in
          (pawn - 1, is_piece-is (piece_of side Pawn) (at board (pawn - 1)) parts.1, rank_before pawn inside, file_before pawn inside)
      | inr right ↦
          let parts = and_parts (not (file pawn == 7)) (is_piece (piece_of side Pawn) (at board (pawn + 1))) right in
          let inside : pawn % 8 ≢ 7 = other_than (file pawn) 7 parts.0 in
          (pawn + 1, is_piece-is (piece_of side Pawn) (at board (pawn + 1)) parts.1, rank_next pawn inside, file_next pawn inside)
    ]

pub capturer_known : (board : Board) (side : Colour) (pawn q : ℕ) → Holds board q (piece_of side Pawn) → rank q ≡ rank pawn → files_apart q pawn ≡ 1 → has_capturer board side pawn ≡ true
capturer_known board side pawn q holds same next =
    let left : Bool = not (file pawn == 0) && is_piece (piece_of side Pawn) (at board (pawn - 1)) in
    let right : Bool = not (file pawn == 7) && is_piece (piece_of side Pawn) (at board (pawn + 1)) in
    let stands = there_pawn side (at board q) holds in
    let P : ℕ → Type 0 = λ q. is_piece (piece_of side Pawn) (at board q) ≡ true in
    elim (beside_either q pawn same next) [
      | inl l ↦ true_left left right (both_true (not (file pawn == 0)) (is_piece (piece_of side Pawn) (at board (pawn - 1))) (tells_other (file pawn) 0 l.1) (subst P l.0 stands))
      | inr r ↦ true_right left right (both_true (not (file pawn == 7)) (is_piece (piece_of side Pawn) (at board (pawn + 1))) (tells_other (file pawn) 7 r.1) (subst P r.0 stands))
    ]

-- ---- by a set

-- the squares beside one, as the code computes them
abbrev pub beside : ℕ → ℕ
beside a = bit_or (bit_and (1 * 2 ^ a % 2 ^ 64) 9187201950435737471 * 2 % 2 ^ 64) (bit_and (1 * 2 ^ a % 2 ^ 64) 18374403900871474942 / 2)

abbrev beside_test : ℕ → ℕ → Bool
beside_test a b = eqb (rank b) (rank a) && eqb (files_apart b a) 1

beside_is_right : is_right beside beside_test ≡ true
beside_is_right = refl

pub beside_tells : (a b : ℕ) → a < 64 → b < 64 → (bit_at (beside a) b ≡ 1) ↔ ((rank b ≡ rank a) × (files_apart b a ≡ 1))
beside_tells a b x y =
    bit_tells beside beside_test a b ((rank b ≡ rank a) × (files_apart b a ≡ 1)) beside_is_right x y
    (λ h. both _ _ (eq-eqb (rank b) (rank a) h.0) (eq-eqb (files_apart b a) 1 h.1))
    (λ h. let w = and_parts (eqb (rank b) (rank a)) (eqb (files_apart b a) 1) h in (eqb-true (rank b) (rank a) w.0, eqb-true (files_apart b a) 1 w.1))

same_flag : (x y : Bool) → (x ≡ true → y ≡ true) → (y ≡ true → x ≡ true) → x ≡ y
same_flag true y to back = sym (to refl)
same_flag false true to back = back refl
same_flag false false to back = refl

-- some pawn stands beside just where two sets meet
pub capturer_told : (board : Board) (side : Colour) (pawn near pawns : ℕ) → near < 2 ^ 64 → pawn < 64 → ((q : ℕ) → q < 64 → (bit_at near q ≡ 1) ↔ ((rank q ≡ rank pawn) × (files_apart q pawn ≡ 1)))
    → ((q : ℕ) → (bit_at pawns q ≡ 1) ↔ Holds board q (piece_of side Pawn)) → not (eqb (bit_and near pawns) 0) ≡ has_capturer board side pawn
capturer_told board side pawn near pawns small on has tells =
    same_flag (not (eqb (bit_and near pawns) 0)) (has_capturer board side pawn)
    (λ h.
    let other : bit_and near pawns ≢ 0 = other_than (bit_and near pawns) 0 h in
    let w = in_some (bit_and near pawns) (omega (arith, and_le_l near pawns)) (omega arith) in
    let inside = in_and near pawns w.0 w.2 in
    let place = (has w.0 w.1).0 inside.0 in
    capturer_known board side pawn w.0 ((tells w.0).0 inside.1) place.0 place.1)
    (λ h.
    let found = capturer_there board side pawn h in
    let on_board : found.0 < 64 = (let same = found.2 in omega arith) in
    let inside = in_both near pawns found.0 ((has found.0 on_board).1 (found.2, found.3)) ((tells found.0).1 found.1) in
    tells_other (bit_and near pawns) 0 (λ none. in_none (bit_and near pawns) found.0 none inside))
