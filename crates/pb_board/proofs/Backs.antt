-- The board comes back from its bitboards.
use Rattle.std.proofs.Common.{◌≡◌, ◌↔◌, ◌+◌, ◌*◌, max, bit_or, ℕ, IsTrue, Bool, true, false, ◌==◌, List, [], ◌∷◌, Option, Some, None, length, cond, refl, sym, ap, ap₂, subst, ◌∙◌, arith, slice_index_or}
use Rattle.std.specs.Int.{bit_at}
use Rattle.std.proofs.lemmas.Nat.Bits.{bit_at_or}
use Rattle.std.specs.Bool.{then_some}
use Rattle.std.specs.List.{find}
use Rattle.std.proofs.lemmas.Bool.{false≢true}
use Rattle.std.proofs.lemmas.List.FromFn.{fill_by_all}
use Rattle.pb_board.specs.declared.piece.Colour.{Colour}
use Rattle.pb_board.specs.declared.piece.Colour.TheVariants.{White, Black}
use Rattle.pb_board.specs.declared.piece.Kind.{Kind}
use Rattle.pb_board.specs.declared.piece.Kind.TheVariants.{Pawn, Knight, Bishop, Rook, Queen, King}
use Rattle.pb_board.specs.declared.piece.Piece.{Piece}
use Rattle.pb_board.specs.declared.bitboards.Bitboards.{Bitboards}
use Rattle.pb_board.specs.declared.setup.Rights.{Rights}
use Rattle.pb_board.specs.SetupRules.{HasBitboards}
use Rattle.pb_board.specs.Position.{IsSetup, Position, position_of}
use Rattle.pb_board.specs.Piece.{colour_number, kind_number, piece_of}
use Rattle.pb_board.specs.Board.{Place, Board, Holds, at, is_piece}
use Rattle.pb_board.specs.Bitboards.{bit_for, is_kind, is_on, is_side, pieces, bitboards_of, board_of}
use Rattle.pb_board.proofs.BitboardBits.{kind_bit, piece_bit, side_bit}

find_same : {A : Type 0} (f g : A → Bool) → ((x : A) → f x ≡ g x) → (xs : List A) → find f xs ≡ find g xs
find_same f g same [] = refl
find_same f g same (x ∷ xs) = ap₂ (λ b o. cond b (Some x) o) (same x) (find_same f g same xs)

one_is : (b : Bool) → (bit_for b == 1) ≡ b
one_is true = refl
one_is false = refl

piece_found : (c : Colour) (k : Kind) → find (λ p. is_piece p (Some (piece_of c k))) pieces ≡ Some (piece_of c k)
piece_found White Pawn = refl
piece_found Black Pawn = refl
piece_found c k = refl

-- of the twelve pieces the one that stands there is found
found : (x : Place) → find (λ p. is_piece p x) pieces ≡ x
found None = refl
found (Some p) = piece_found p.colour p.kind

place_back : (b : Board) (q : ℕ) → at b q ≡ find (is_on (bitboards_of b) q) pieces
place_back b q = sym (find_same (is_on (bitboards_of b) q) (λ p. is_piece p (at b q)) (λ p. ap (λ (n : ℕ). n == 1) (piece_bit b q p) ∙ one_is (is_piece p (at b q))) pieces ∙ found (at b q))

pub board_back : (m : Bitboards) (b : Board) → length b ≡ 64 → m ≡ bitboards_of b → board_of m ≡ b
unfolding board_of
board_back m b full e =
    ap board_of e ∙ sym (fill_by_all (λ q. find (is_on (bitboards_of b) q) pieces) b 64 None full (λ q on. place_back b q))

-- a kind's bit at the square of a piece
pub kind_bit_of : (m : Bitboards) (b : Board) (q : ℕ) (p : Piece) (k : Kind) → m ≡ bitboards_of b → Holds b q p → bit_at (slice_index_or m.kinds (kind_number k) 0) q ≡ bit_for (is_kind k (Some p))
kind_bit_of m b q p k e here = ap (λ (x : Bitboards). bit_at (slice_index_or x.kinds (kind_number k) 0) q) e ∙ kind_bit b q k ∙ ap (λ x. bit_for (is_kind k x)) here

-- a bit of two sets
pub either_bit : (a b q x y : ℕ) → bit_at a q ≡ x → bit_at b q ≡ y → bit_at (bit_or a b) q ≡ max x y
either_bit a b q x y is_x is_y = bit_at_or a b q ∙ ap₂ (λ (m n : ℕ). max m n) is_x is_y

-- the bits of one piece make its kind's number: the lowest, the middle and the highest digit
pub numbered : (p : Piece) → max (max (bit_for (is_kind Knight (Some p))) (bit_for (is_kind Rook (Some p)))) (bit_for (is_kind King (Some p)))
    + 2 * max (bit_for (is_kind Bishop (Some p))) (bit_for (is_kind Rook (Some p))) + 4 * max (bit_for (is_kind Queen (Some p))) (bit_for (is_kind King (Some p))) ≡ kind_number p.kind
numbered p = by p.kind
  where
    by : (k : Kind) → max (max (bit_for (kind_number k == 1)) (bit_for (kind_number k == 3))) (bit_for (kind_number k == 5))
        + 2 * max (bit_for (kind_number k == 2)) (bit_for (kind_number k == 3)) + 4 * max (bit_for (kind_number k == 4)) (bit_for (kind_number k == 5)) ≡ kind_number k
    by Pawn = refl
    by Knight = refl
    by Bishop = refl
    by Rook = refl
    by Queen = refl
    by King = refl

-- a side's bit at the square of a piece
pub side_bit_of : (m : Bitboards) (b : Board) (q : ℕ) (p : Piece) (c : Colour) → m ≡ bitboards_of b → Holds b q p → bit_at (slice_index_or m.sides (colour_number c) 0) q ≡ bit_for (is_side c (Some p))
side_bit_of m b q p c e here = ap (λ (x : Bitboards). bit_at (slice_index_or x.sides (colour_number c) 0) q) e ∙ side_bit b q c ∙ ap (λ x. bit_for (is_side c x)) here

-- the bit of Black's pieces tells a piece's side
pub black_told : (p : Piece) → bit_for (is_side Black (Some p)) ≡ 1 → Black ≡ p.colour
black_told p = of p.colour
  where
    of : (c : Colour) → bit_for (colour_number c == 1) ≡ 1 → Black ≡ c
    of White one = absurd (omega arith)
    of Black one = refl

pub white_told : (p : Piece) → ¬ (bit_for (is_side Black (Some p)) ≡ 1) → White ≡ p.colour
white_told p = of p.colour
  where
    of : (c : Colour) → ¬ (bit_for (colour_number c == 1) ≡ 1) → White ≡ c
    of White none = refl
    of Black none = absurd (none refl)

-- a place by whether something stands there, and of which side and kind it is
pub place_told : (x : Place) (taken : Bool) (c : Colour) (k : Kind) → (IsTrue taken ↔ ¬ (x ≡ None)) → ((p : Piece) → x ≡ Some p → c ≡ p.colour) → ((p : Piece) → x ≡ Some p → k ≡ p.kind)
    → then_some taken (piece_of c k) ≡ x
place_told None true c k stands side kind = absurd (stands.0 refl refl)
place_told None false c k stands side kind = refl
place_told (Some p) true c k stands side kind = ap₂ (λ (d : Colour) (j : Kind). Some (piece_of d j)) (side p refl) (kind p refl)
place_told (Some p) false c k stands side kind = absurd (false≢true (stands.1 (λ e. cc)))

-- bitboards of a board that makes a setup keep it
pub keeps_setup : (m : Bitboards) (b : Board) (turn : Colour) (rights : Rights) (ep : Option ℕ) → m ≡ bitboards_of b → IsSetup (position_of b turn rights ep)
    → HasBitboards (position_of (board_of m) turn rights ep) m
keeps_setup m b turn rights ep e rules = rw (board_back m b rules.places e) (record { rules = rules; bitboards_are = e })

pub setup_is : (m : Bitboards) (b : Board) (turn : Colour) (rights : Rights) (ep : Option ℕ) → length b ≡ 64 → m ≡ bitboards_of b
    → position_of (board_of m) turn rights ep ≡ position_of b turn rights ep
setup_is m b turn rights ep full e = ap (λ (x : Board). position_of x turn rights ep) (board_back m b full e)

-- what an opened setup's invariant tells of the position that it is seen as
pub opened : (m : Bitboards) (turn : Colour) (rights : Rights) (ep : Option ℕ) (s : Position) → HasBitboards (position_of (board_of m) turn rights ep) m
    → position_of (board_of m) turn rights ep ≡ s → HasBitboards s m
opened m turn rights ep s kept is = subst (λ (p : Position). HasBitboards p m) is kept
