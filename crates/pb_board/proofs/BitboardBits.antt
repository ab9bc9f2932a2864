-- Bitboards of a board, told by their bits, and after a change of one square.
use Rattle.std.proofs.Common.{◌≡◌, ◌≢◌, ℕ, zero, suc, ◌+◌, ◌*◌, ◌/◌, ◌%◌, ◌^◌, ◌<◌, ◌≤◌, ◌↔◌, refl, sym, ap, ap₂, subst, ◌∙◌, arith, Bool, true, false, ◌&&◌, ◌==◌, List, [], ◌∷◌, length, ◌⊎◌, Some, None, bit_and, bit_or, w64, inl, inr, min, max, map, cond, replicate, slice_set, slice_index_or}
use denote.Enum.Declared.{tag_of}
use mir.Val.{bits}
use Rattle.std.proofs.Math.Nat.{pow-suc}
use Rattle.std.specs.Int.{bit_at, bit_not}
use Rattle.std.proofs.lemmas.Bool.{cases_order, eq-eqb, eqb-true}
use Rattle.std.proofs.lemmas.Nat.{and_le_l, or_lt}
use Rattle.std.proofs.lemmas.Nat.Bits.{bit_at-zero, bit_at_lowest, bit_at-suc, bit_at_and, bit_at_or, bit_at_clear_same, bit_at_clear_other, bit_at_set_same, bit_at_set_other, same_from_bits_below}
use Rattle.std.proofs.lemmas.List.{get_or-set_same, get_or-set_other, length-set}
use Rattle.pb_board.specs.contracts.piece.Colour as colour
use Rattle.pb_board.specs.contracts.piece.Kind as kind
use Rattle.pb_board.specs.declared.piece.Colour.{Colour}
use Rattle.pb_board.specs.declared.piece.Colour.TheVariants.{White, Black}
use Rattle.pb_board.specs.declared.piece.Kind.{Kind}
use Rattle.pb_board.specs.declared.piece.Kind.TheVariants.{Pawn}
use Rattle.pb_board.specs.declared.piece.Piece.{Piece}
use Rattle.pb_board.specs.declared.bitboards.Bitboards.{Bitboards}
use Rattle.pb_board.specs.Board.{Place, Board, at, Holds, IsEmpty, is_piece}
use Rattle.pb_board.proofs.PieceTests.{colour_one, kind_one, is_piece-is, is_piece-passes, piece_number-halves}
use Rattle.pb_board.specs.Piece.{colour_number, kind_number, piece_of}
use Rattle.pb_board.specs.Bitboards.{is_side, is_kind, bit_for, bitboard_of, bitboards_of, colours, kinds}

map_same : {A : Type 0} (f g : A → ℕ) → ((x : A) → f x ≡ g x) → (xs : List A) → map f xs ≡ map g xs
map_same f g same [] = refl
map_same f g same (x ∷ xs) = ap₂ (λ n ns. n ∷ ns) (same x) (map_same f g same xs)

abbrev made : List ℕ → List ℕ → Bitboards
made sides kinds = record { sides = sides; kinds = kinds }

bit_small : (b : Bool) → bit_for b < 2
bit_small true = omega arith
bit_small false = omega arith

-- a bit is 1 just where the place passes
pub bitboard_bit : (test : Place → Bool) → test None ≡ false → (board : Board) (q : ℕ) → bit_at (bitboard_of test board) q ≡ bit_for (test (at board q))
unfolding bitboard_of
bitboard_bit test none [] q = bit_at-zero q ∙ ap bit_for (sym none)
bitboard_bit test none (x ∷ xs) zero = let small = bit_small (test x) in bit_at_lowest (bit_for (test x) + 2 * bitboard_of test xs) ∙ omega arith
bitboard_bit test none (x ∷ xs) (suc q) =
    let small = bit_small (test x) in
    let half : (bit_for (test x) + 2 * bitboard_of test xs) / 2 ≡ bitboard_of test xs = omega arith in
    bit_at-suc (bit_for (test x) + 2 * bitboard_of test xs) q ∙ (ap (λ (n : ℕ). bit_at n q) half ∙ bitboard_bit test none xs q)

pub bitboard_small : (test : Place → Bool) (board : Board) (n : ℕ) → length board ≡ n → bitboard_of test board < 2 ^ n
unfolding bitboard_of
bitboard_small test [] zero e = omega arith
bitboard_small test [] (suc n) e = absurd (omega arith)
bitboard_small test (x ∷ xs) zero e = absurd (omega arith)
bitboard_small test (x ∷ xs) (suc n) e =
    let small = bit_small (test x) in
    let rest = bitboard_small test xs n (omega arith) in
    rw (pow-suc 2 n) (omega arith)

-- what has the bits of a board is its bitboard
pub bitboard_is : (test : Place → Bool) → test None ≡ false → (board : Board) (n : ℕ) → length board ≡ 64 → n < 2 ^ 64
    → ((q : ℕ) → q < 64 → bit_at n q ≡ bit_for (test (at board q))) → n ≡ bitboard_of test board
bitboard_is test none board n full small bit =
    same_from_bits_below 64 n (bitboard_of test board) small (bitboard_small test board 64 full) (λ q on. bit q on ∙ sym (bitboard_bit test none board q))

pub same_or_not : (a b : ℕ) → (a ≡ b) ⊎ (a ≢ b)
same_or_not a b =
    elim (cases_order a b) [
      | inl same ↦ inl same
      | inr o ↦ elim o [ inl l ↦ inr (λ e. omega arith) | inr g ↦ inr (λ e. omega arith) ]
    ]

-- what has the bits of a bitboard but for one square is that of the board with that square changed
pub bitboard_set : (test : Place → Bool) → test None ≡ false → (board : Board) (s n : ℕ) (x : Place) → length board ≡ 64 → s < 64 → n < 2 ^ 64
    → bit_at n s ≡ bit_for (test x) → ((q : ℕ) → q < 64 → q ≢ s → bit_at n q ≡ bit_at (bitboard_of test board) q) → n ≡ bitboard_of test (slice_set board s x)
bitboard_set test none board s n x full on small here others =
    let bit : Place → ℕ = λ place. bit_for (test place) in
    bitboard_is test none (slice_set board s x) n (length-set board s x ∙ full) small (λ q in_q. elim (same_or_not q s) [
      | inl e ↦
          (let P : ℕ → Type 0 = λ k. bit_at n k ≡ bit (at (slice_set board s x) k) in
          subst P (sym e) (here ∙ sym (ap bit (get_or-set_same board s x None (omega arith)))))
      | inr ne ↦ others q in_q ne ∙ (bitboard_bit test none board q ∙ ap bit (sym (get_or-set_other board s q x None ne)))
    ])

-- the bitboard without a square
abbrev pub cleared : ℕ → ℕ → ℕ
cleared m s = bit_and m (bit_not w64 (1 * 2 ^ s % 2 ^ bits w64))

-- the bitboard with a square
abbrev pub with_bit : ℕ → ℕ → ℕ
with_bit m s = bit_or m (1 * 2 ^ s % 2 ^ bits w64)

module _ (board : Board) (s : ℕ) (full : length board ≡ 64) (on : s < 64) where
  bitboard_cleared : (test : Place → Bool) → test None ≡ false → cleared (bitboard_of test board) s ≡ bitboard_of test (slice_set board s None)
  bitboard_cleared test none =
      let m = bitboard_of test board in
      let small = bitboard_small test board 64 full in
      let le = and_le_l m (bit_not w64 (1 * 2 ^ s % 2 ^ bits w64)) in
      bitboard_set test none board s (cleared m s) None full on (omega arith) (bit_at_clear_same w64 m s on ∙ sym (ap bit_for none)) (λ q in_q ne. bit_at_clear_other w64 m s on q in_q ne)

  bitboard_put : (test : Place → Bool) → test None ≡ false → (p : Piece) → IsEmpty board s → (passes : Bool) → test (Some p) ≡ passes
      → cond passes (with_bit (bitboard_of test board) s) (bitboard_of test board) ≡ bitboard_of test (slice_set board s (Some p))
  bitboard_put test none p empty true passes =
      let m = bitboard_of test board in
      let small = or_lt 64 m (1 * 2 ^ s % 2 ^ bits w64) (bitboard_small test board 64 full) (omega arith) in
      bitboard_set test none board s (with_bit m s) (Some p) full on small (bit_at_set_same w64 m s on ∙ sym (ap bit_for passes)) (λ q in_q ne. bit_at_set_other w64 m s on q ne)
  bitboard_put test none p empty false passes =
      let nothing = bitboard_bit test none board s ∙ ap (λ (x : Place). bit_for (test x)) empty ∙ ap bit_for none in
      bitboard_set test none board s (bitboard_of test board) (Some p) full on (bitboard_small test board 64 full) (nothing ∙ sym (ap bit_for passes)) (λ q in_q ne. refl)

  pub bitboards_cleared : record {
    sides = map (λ c. cleared (bitboard_of (is_side c) board) s) colours;
    kinds = map (λ k. cleared (bitboard_of (is_kind k) board) s) kinds;
  } ≡ bitboards_of (slice_set board s None)
  unfolding bitboards_of
  bitboards_cleared = ap₂ made (map_same _ _ (λ c. bitboard_cleared (is_side c) refl) colours) (map_same _ _ (λ k. bitboard_cleared (is_kind k) refl) kinds)

  -- a piece is put on an empty square
  sides_put : (c : Colour) → slice_set (bitboards_of board).sides (colour_number c) (with_bit (slice_index_or (bitboards_of board).sides (colour_number c) 0) s)
      ≡ map (λ d. cond (colour_number c == colour_number d) (with_bit (bitboard_of (is_side d) board) s) (bitboard_of (is_side d) board)) colours
  unfolding bitboards_of
  sides_put White = refl
  sides_put Black = refl

  kinds_put : (k : Kind) → slice_set (bitboards_of board).kinds (kind_number k) (with_bit (slice_index_or (bitboards_of board).kinds (kind_number k) 0) s)
      ≡ map (λ j. cond (kind_number k == kind_number j) (with_bit (bitboard_of (is_kind j) board) s) (bitboard_of (is_kind j) board)) kinds
  unfolding bitboards_of
  kinds_put Pawn = refl
  kinds_put k = refl

  pub bitboards_put : (p : Piece) → IsEmpty board s → record {
    sides = slice_set (bitboards_of board).sides (colour_number p.colour) (with_bit (slice_index_or (bitboards_of board).sides (colour_number p.colour) 0) s);
    kinds = slice_set (bitboards_of board).kinds (kind_number p.kind) (with_bit (slice_index_or (bitboards_of board).kinds (kind_number p.kind) 0) s);
  } ≡ bitboards_of (slice_set board s (Some p))
  unfolding bitboards_of
  bitboards_put p empty = ap₂ made
      (sides_put p.colour ∙ map_same _ _ (λ c. bitboard_put (is_side c) refl p empty _ refl) colours)
      (kinds_put p.kind ∙ map_same _ _ (λ k. bitboard_put (is_kind k) refl p empty _ refl) kinds)

side_either : (c : Colour) → max (bit_for (is_side White (Some (record { colour = c; kind = Pawn })))) (bit_for (is_side Black (Some (record { colour = c; kind = Pawn })))) ≡ 1
side_either White = refl
side_either Black = refl

taken_place : (x : Place) → (max (bit_for (is_side White x)) (bit_for (is_side Black x)) ≡ 1) ↔ ¬ (x ≡ None)
taken_place None = (λ e. absurd (omega arith), λ h. absurd (h refl))
taken_place (Some p) = (λ e same. cc, λ h. side_either p.colour)

pub occupied_bit : (m : Bitboards) (b : Board) (q : ℕ) → m ≡ bitboards_of b
    → ((bit_at (bit_or (slice_index_or m.sides 0 0) (slice_index_or m.sides 1 0)) q ≡ 1) ↔ ¬ IsEmpty b q)
unfolding bitboards_of
occupied_bit m b q e =
    let P : Bitboards → Type 0 = λ x. (bit_at (bit_or (slice_index_or x.sides 0 0) (slice_index_or x.sides 1 0)) q ≡ 1) ↔ ¬ IsEmpty b q in
    let white = bitboard_bit (is_side White) refl b q in
    let black = bitboard_bit (is_side Black) refl b q in
    let is : bit_at (bit_or (bitboard_of (is_side White) b) (bitboard_of (is_side Black) b)) q ≡ max (bit_for (is_side White (at b q))) (bit_for (is_side Black (at b q))) =
    bit_at_or (bitboard_of (is_side White) b) (bitboard_of (is_side Black) b) q ∙ (ap (λ (n : ℕ). max n (bit_at (bitboard_of (is_side Black) b) q)) white ∙ ap (λ (n : ℕ). max (bit_for (is_side White (at b q))) n) black) in
    let place = taken_place (at b q) in
    subst P (sym e) ((λ one. place.0 (sym is ∙ one)), (λ h. is ∙ place.1 h))

pub one_for : (b : Bool) → bit_for b ≡ 1 → b ≡ true
one_for true e = refl
one_for false e = absurd (omega arith)

min_bits : (s k : Bool) → min (bit_for s) (bit_for k) ≡ bit_for (k && s)
min_bits true true = refl
min_bits true false = refl
min_bits false true = refl
min_bits false false = refl

side_bitboard : (b : Board) (c : Colour) → slice_index_or (bitboards_of b).sides (colour_number c) 0 ≡ bitboard_of (is_side c) b
unfolding bitboards_of
side_bitboard b White = refl
side_bitboard b Black = refl

kind_bitboard : (b : Board) (k : Kind) → slice_index_or (bitboards_of b).kinds (kind_number k) 0 ≡ bitboard_of (is_kind k) b
unfolding bitboards_of
kind_bitboard b Pawn = refl
kind_bitboard b k = refl

pub side_bit : (b : Board) (q : ℕ) (c : Colour) → bit_at (slice_index_or (bitboards_of b).sides (colour_number c) 0) q ≡ bit_for (is_side c (at b q))
side_bit b q c = ap (λ (n : ℕ). bit_at n q) (side_bitboard b c) ∙ bitboard_bit (is_side c) refl b q

pub kind_bit : (b : Board) (q : ℕ) (k : Kind) → bit_at (slice_index_or (bitboards_of b).kinds (kind_number k) 0) q ≡ bit_for (is_kind k (at b q))
kind_bit b q k = ap (λ (n : ℕ). bit_at n q) (kind_bitboard b k) ∙ bitboard_bit (is_kind k) refl b q

side_there : (x : Place) (c : Colour) → bit_for (is_side c x) ≡ 1 → (k : Kind) × (x ≡ Some (piece_of c k))
side_there None c one = absurd (omega arith)
side_there (Some p) c one = (p.kind, ap (λ (d : Colour). Some (piece_of d p.kind)) (colour_one p.colour c (eqb-true (colour_number p.colour) (colour_number c) (one_for _ one))))

pub side_told : (x : Place) (c : Colour) → (bit_for (is_side c x) ≡ 1) ↔ ((k : Kind) × (x ≡ Some (piece_of c k)))
side_told x c = (
  side_there x c,
  λ h. ap (λ (y : Place). bit_for (is_side c y)) h.1 ∙ ap bit_for (eq-eqb (colour_number c) (colour_number c) refl),
)

kind_there : (x : Place) (k : Kind) → bit_for (is_kind k x) ≡ 1 → (c : Colour) × (x ≡ Some (piece_of c k))
kind_there None k one = absurd (omega arith)
kind_there (Some p) k one = (p.colour, ap (λ (j : Kind). Some (piece_of p.colour j)) (kind_one p.kind k (eqb-true (kind_number p.kind) (kind_number k) (one_for _ one))))

pub kind_told : (x : Place) (k : Kind) → (bit_for (is_kind k x) ≡ 1) ↔ ((c : Colour) × (x ≡ Some (piece_of c k)))
kind_told x k = (
  kind_there x k,
  λ h. ap (λ (y : Place). bit_for (is_kind k y)) h.1 ∙ ap bit_for (eq-eqb (kind_number k) (kind_number k) refl),
)

both_bits : (x : Place) (p : Piece) → min (bit_for (is_side p.colour x)) (bit_for (is_kind p.kind x)) ≡ bit_for (is_piece p x)
both_bits None p = refl
both_bits (Some r) p = min_bits (colour_number r.colour == colour_number p.colour) (kind_number r.kind == kind_number p.kind) ∙ ap bit_for (piece_number-halves r p)

-- the bit of a square in the bitboards of a piece's side and kind
pub piece_bit : (b : Board) (q : ℕ) (p : Piece)
    → bit_at (bit_and (slice_index_or (bitboards_of b).sides (colour_number p.colour) 0) (slice_index_or (bitboards_of b).kinds (kind_number p.kind) 0)) q ≡ bit_for (is_piece p (at b q))
piece_bit b q p = bit_at_and _ _ q ∙ (ap₂ (λ (m n : ℕ). min m n) (side_bit b q p.colour) (kind_bit b q p.kind) ∙ both_bits (at b q) p)

pub standing_bit : (m : Bitboards) (b : Board) (q c k : ℕ) (p : Piece) → c ≡ colour_number p.colour → k ≡ kind_number p.kind → m ≡ bitboards_of b
    → ((bit_at (bit_and (slice_index_or m.sides c 0) (slice_index_or m.kinds k 0)) q ≡ 1) ↔ Holds b q p)
standing_bit m b q c k p same_c same_k e =
    rw (e, same_c, same_k) (
      λ one. is_piece-is p (at b q) (one_for _ (sym (piece_bit b q p) ∙ one)),
      λ h. piece_bit b q p ∙ ap bit_for (ap (is_piece p) h ∙ is_piece-passes p),
    )

-- a board of the same length with nothing on it
abbrev pub none_of : Board → Board
none_of [] = []
none_of (x ∷ xs) = None ∷ none_of xs

-- the first n places, and nothing beyond
pub started : ℕ → Board → Board
started zero xs = none_of xs
started (suc n) [] = []
started (suc n) (x ∷ xs) = x ∷ started n xs

none_length : (xs : Board) → length (none_of xs) ≡ length xs
none_length [] = refl
none_length (x ∷ xs) = let rest = none_length xs in omega arith

pub started_length : (n : ℕ) (xs : Board) → length (started n xs) ≡ length xs
unfolding started
started_length zero xs = none_length xs
started_length (suc n) [] = refl
started_length (suc n) (x ∷ xs) = let rest = started_length n xs in omega arith

pub started_more : (n : ℕ) (xs : Board) → slice_set (started n xs) n (at xs n) ≡ started (suc n) xs
unfolding started
started_more zero [] = refl
started_more zero (x ∷ xs) = refl
started_more (suc n) [] = refl
started_more (suc n) (x ∷ xs) = ap (λ (l : Board). x ∷ l) (started_more n xs)

-- the places from the next on are empty
pub started_next : (n : ℕ) (xs : Board) → IsEmpty (started n xs) n
unfolding started
started_next zero [] = refl
started_next zero (x ∷ xs) = refl
started_next (suc n) [] = refl
started_next (suc n) (x ∷ xs) = started_next n xs

pub started_all : (n : ℕ) (xs : Board) → length xs ≤ n → started n xs ≡ xs
unfolding started
started_all zero [] le = refl
started_all zero (x ∷ xs) le = absurd (omega arith)
started_all (suc n) [] le = refl
started_all (suc n) (x ∷ xs) le = ap (λ (l : Board). x ∷ l) (started_all n xs (omega arith))

pub started_none : (n : ℕ) (xs : Board) → length xs ≡ n → replicate n None ≡ started 0 xs
unfolding started
started_none zero [] e = refl
started_none zero (x ∷ xs) e = absurd (omega arith)
started_none (suc n) [] e = absurd (omega arith)
started_none (suc n) (x ∷ xs) e = ap (λ (l : Board). None ∷ l) (started_none n xs (omega arith))

bitboard_none : (test : Place → Bool) → test None ≡ false → (xs : Board) → bitboard_of test (none_of xs) ≡ 0
unfolding bitboard_of
bitboard_none test none [] = refl
bitboard_none test none (x ∷ xs) = let rest = bitboard_none test none xs in let zero_bit = ap bit_for none in omega arith

pub bitboards_none : (xs : Board) → record { sides = 0 ∷ 0 ∷ []; kinds = 0 ∷ 0 ∷ 0 ∷ 0 ∷ 0 ∷ 0 ∷ [] } ≡ bitboards_of (started 0 xs)
unfolding started bitboards_of
bitboards_none xs = ap₂ made
    (map_same (λ _. 0) _ (λ c. sym (bitboard_none (is_side c) refl xs)) colours)
    (map_same (λ _. 0) _ (λ k. sym (bitboard_none (is_kind k) refl xs)) kinds)

-- the number of a side, as a cast gives it
pub colour_cast : (c : Colour) → tag_of colour.the_type c ≡ colour_number c
colour_cast White = refl
colour_cast Black = refl

-- the number of a kind, as a cast gives it
pub kind_cast : (k : Kind) → tag_of kind.the_type k ≡ kind_number k
kind_cast Pawn = refl
kind_cast k = refl
