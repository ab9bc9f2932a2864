-- A move as a number of 16 bits, which is how it is kept.
use Rattle.std.specs.Prelude.{◌≡◌, ℕ, ◌+◌, ◌*◌, ◌/◌, ◌%◌, ◌<◌, Option, Some, None}
use Rattle.std.proofs.Common.{zero, suc, ap, refl, arith}
use Rattle.pb_board.specs.declared.piece.Kind.{Kind}
use Rattle.pb_board.specs.declared.piece.Kind.TheVariants.{Pawn, Knight, Bishop, Rook, Queen, King}
use Rattle.pb_moves.specs.Moved.{IsMove, IsPromotion, Moved, moved_of}
use Rattle.pb_moves.specs.Moved.{promotion_number, promotion_of}

-- the square reached, 64 times the square left, and 4,096 times the promotion
abbrev pub packed : Moved → ℕ
packed m = m.to + 64 * m.from + 4096 * promotion_number m.promo

abbrev pub unpacked : ℕ → Moved
unpacked n = moved_of (n / 64 % 64) (n % 64) (promotion_of (n / 4096))

-- the number of a move
pub record IsPacked (n : ℕ) : Type 0 where
  pub rules : IsMove (unpacked n)
  pub small : n < 20480

pub promotion_small : (o : Option Kind) → promotion_number o < 5
promotion_small None = omega arith
promotion_small (Some Pawn) = omega arith
promotion_small (Some k) = omega arith

pub promotion_back : (promo : Option Kind) → ((kind : Kind) → promo ≡ Some kind → IsPromotion kind)
    → promotion_of (promotion_number promo) ≡ promo
promotion_back None lawful = refl
promotion_back (Some Pawn) lawful = absurd ((lawful Pawn refl).0 refl)
promotion_back (Some Knight) lawful = refl
promotion_back (Some Bishop) lawful = refl
promotion_back (Some Rook) lawful = refl
promotion_back (Some Queen) lawful = refl
promotion_back (Some King) lawful = absurd ((lawful King refl).1 refl)

promotion_again : (n : ℕ) → n < 5 → promotion_number (promotion_of n) ≡ n
promotion_again zero small = refl
promotion_again (suc zero) small = refl
promotion_again (suc (suc zero)) small = refl
promotion_again (suc (suc (suc zero))) small = refl
promotion_again (suc (suc (suc (suc zero)))) small = refl
promotion_again (suc (suc (suc (suc (suc n))))) small = absurd (omega arith)

-- the number comes back from its move
pub packed-back : {A : Type 0} (make : ℕ → A) (n : ℕ) → IsPacked n
    → make (packed (unpacked n)) ≡ make n
packed-back make n h =
    let few : n / 4096 < 5 = omega (arith, h.small) in
    let promotion = promotion_again (n / 4096) few in
    ap make (omega (arith, promotion))
