-- The offsets that the key's function goes over are those of the setup, each once.
use Rattle.std.proofs.Common.{◌≡◌, ℕ, zero, suc, ◌+◌, ◌%◌, ◌<◌, ◌≤◌, ◌⊎◌, inl, inr, Bool, true, false, ◌==◌, Option, Some, None, List, [], ◌∷◌, ◌++◌, length, refl, sym, ap, ◌∙◌, subst, arith}
use Rattle.std.specs.Prelude.{IsTrue}
use Rattle.std.specs.Option.{option_map_or}
use Rattle.pb_board.specs.declared.piece.Colour.{Colour}
use Rattle.pb_board.specs.declared.piece.Colour.TheVariants.{White, Black}
use Rattle.pb_board.specs.declared.piece.Kind.{Kind}
use Rattle.pb_board.specs.declared.piece.Kind.TheVariants.{Pawn, Knight, Bishop, Rook, Queen, King}
use Rattle.pb_board.specs.declared.piece.Piece.{Piece}
use Rattle.pb_board.specs.declared.setup.Rights.{Rights}
use Rattle.pb_board.specs.Piece.{colour_number, kind_number, piece_number}
use Rattle.pb_board.specs.Board.{Board, Place, at, file}
use Rattle.pb_board.specs.Position.{Position, IsSetup, double_stepped}
use Rattle.pb_board.specs.Rights.{of_rights, only_if}
use Rattle.pb_poly.specs.Key.{AreOffsets, HasOffset, of_piece, of_right, en_passant, white_to_move, HasCapturer, has_capturer, en_passant_offsets, piece_offset, piece_offsets, offsets}
use Rattle.pb_poly.proofs.Capturers.{capturer_known, capturer_there}
use Rattle.pb_poly.proofs.Among.{Among, Distinct, among_contained, among_either, among_left, among_right, contains_among, distinct_append, distinct_pairs}

-- ---- the pieces

-- the offset of a piece that stands on the board from this square on
pub record IsOffsetOn (board : Board) (square offset : ℕ) : Type 0 where
  pub ahead : ℕ
  pub piece : Piece
  pub stands : at board ahead ≡ Some piece
  pub on_board : ahead < length board
  pub is : offset ≡ piece_offset piece (square + ahead)

on_later : (first : Place) (board : Board) (square offset : ℕ) → IsOffsetOn board (square + 1) offset → IsOffsetOn (first ∷ board) square offset
on_later first board square offset h = record { ahead = suc h.ahead; piece = h.piece; stands = h.stands; on_board = (let below = h.on_board in omega arith); is = h.is ∙ ap (λ q. piece_offset h.piece q) (omega arith) }

offset_on : (board : Board) (square offset : ℕ) → Among (piece_offsets board square) offset → IsOffsetOn board square offset
offset_on [] square offset h = absurd h
offset_on (None ∷ board) square offset h = on_later None board square offset (offset_on board (square + 1) offset h)
offset_on (Some p ∷ board) square offset (inl e) = record { ahead = 0; piece = p; stands = refl; on_board = omega arith; is = e ∙ ap (λ q. piece_offset p q) (omega arith) }
offset_on (Some p ∷ board) square offset (inr h) = on_later (Some p) board square offset (offset_on board (square + 1) offset h)

among_pieces : (board : Board) (square ahead : ℕ) (p : Piece) → at board ahead ≡ Some p → Among (piece_offsets board square) (piece_offset p (square + ahead))
among_pieces [] square ahead p h = absurd (cc)
among_pieces (None ∷ board) square zero p h = absurd (cc)
among_pieces (None ∷ board) square (suc ahead) p h =
    let P : ℕ → Type 0 = λ q. Among (piece_offsets board (square + 1)) (piece_offset p q) in
    let e : square + 1 + ahead ≡ square + suc ahead = omega arith in
    subst P e (among_pieces board (square + 1) ahead p h)
among_pieces (Some x ∷ board) square zero p h =
    let same : p ≡ x = cc in
    inl (ap (λ (y : Piece). piece_offset y (square + 0)) same ∙ ap (λ q. piece_offset x q) (omega arith))
among_pieces (Some x ∷ board) square (suc ahead) p h =
    let P : ℕ → Type 0 = λ q. Among (piece_offsets board (square + 1)) (piece_offset p q) in
    let e : square + 1 + ahead ≡ square + suc ahead = omega arith in
    inr (subst P e (among_pieces board (square + 1) ahead p h))

kind_below : (kind : Kind) → kind_number kind < 6
kind_below Pawn = omega arith
kind_below Knight = omega arith
kind_below Bishop = omega arith
kind_below Rook = omega arith
kind_below Queen = omega arith
kind_below King = omega arith

number_below : (p : Piece) → piece_number p < 12
number_below p = let few = kind_below p.kind in omega (arith, few)

low_square : (board : Board) (square offset : ℕ) → square + length board ≤ 64 → IsOffsetOn board square offset → (square ≤ offset % 64) × (offset < 768)
low_square board square offset fits h =
    let few = number_below h.piece in
    let within = h.on_board in
    let is = h.is in
    (omega (arith, few, within, is), omega (arith, few, within, is))

distinct_pieces : (board : Board) (square : ℕ) → square + length board ≤ 64 → Distinct (piece_offsets board square)
distinct_pieces [] square fits = tt
distinct_pieces (None ∷ board) square fits = distinct_pieces board (square + 1) (omega arith)
distinct_pieces (Some p ∷ board) square fits = (
  λ again.
      let low = (low_square board (square + 1) (piece_offset p square) (omega arith) (offset_on board (square + 1) (piece_offset p square) again)).0 in
      omega (arith, low),
  distinct_pieces board (square + 1) (omega arith),
)

-- ---- flags

among_flag : (flag : Bool) (offset n : ℕ) → Among (only_if flag offset) n → IsTrue flag × (n ≡ offset)
among_flag true offset n (inl e) = (refl, e)
among_flag true offset n (inr h) = absurd h
among_flag false offset n h = absurd h

flag_among : (flag : Bool) (offset n : ℕ) → IsTrue flag → n ≡ offset → Among (only_if flag offset) n
flag_among true offset n set is = inl is
flag_among false offset n set is = absurd (cc)

distinct_flag : (flag : Bool) (offset : ℕ) → Distinct (only_if flag offset)
distinct_flag true offset = (λ h. h, tt)
distinct_flag false offset = tt

-- the offset of the side to move
abbrev pub turn_offsets : Colour → List ℕ
turn_offsets turn = only_if (colour_number turn == 0) 780

among_turn : (turn : Colour) (n : ℕ) → Among (turn_offsets turn) n → (turn ≡ White) × (n ≡ 780)
among_turn White n (inl e) = (refl, e)
among_turn White n (inr h) = absurd h
among_turn Black n h = absurd h

turn_among : (turn : Colour) (n : ℕ) → turn ≡ White → n ≡ 780 → Among (turn_offsets turn) n
turn_among White n white is = inl is
turn_among Black n white is = absurd (cc)

distinct_turn : (turn : Colour) → Distinct (turn_offsets turn)
distinct_turn White = (λ h. h, tt)
distinct_turn Black = tt

-- ---- the en passant square

capturer_of : (s : Position) (square : ℕ) → has_capturer s.board s.turn (double_stepped s.turn square) ≡ true → HasCapturer s square
capturer_of s square h =
    let found = capturer_there s.board s.turn (double_stepped s.turn square) h in
    record { capturer = found.0; stands = found.1; same_rank = found.2; next_file = found.3 }

of_capturer : (s : Position) (square : ℕ) → HasCapturer s square → has_capturer s.board s.turn (double_stepped s.turn square) ≡ true
of_capturer s square h = capturer_known s.board s.turn (double_stepped s.turn square) h.capturer h.stands h.same_rank h.next_file

-- the offset of such an en passant square
abbrev pub passing_offsets : Position → Option ℕ → List ℕ
passing_offsets s ep = option_map_or (λ q. only_if (has_capturer s.board s.turn (double_stepped s.turn q)) (772 + file q)) ep []

among_en_passant : (s : Position) (ep : Option ℕ) (n : ℕ) → Among (passing_offsets s ep) n → (square : ℕ) × (ep ≡ Some square) × HasCapturer s square × (n ≡ 772 + file square)
among_en_passant s None n h = absurd h
among_en_passant s (Some square) n h =
    let flag = among_flag (has_capturer s.board s.turn (double_stepped s.turn square)) (772 + file square) n h in
    (square, refl, capturer_of s square flag.0, flag.1)

en_passant_among : (s : Position) (ep : Option ℕ) (square n : ℕ) → ep ≡ Some square → HasCapturer s square → n ≡ 772 + file square → Among (passing_offsets s ep) n
en_passant_among s ep square n is capturer offset =
    let P : Option ℕ → Type 0 = λ o. Among (passing_offsets s o) n in
    subst P (sym is) (flag_among (has_capturer s.board s.turn (double_stepped s.turn square)) (772 + file square) n (of_capturer s square capturer) offset)

distinct_en_passant : (s : Position) (ep : Option ℕ) → Distinct (passing_offsets s ep)
distinct_en_passant s None = tt
distinct_en_passant s (Some square) = distinct_flag (has_capturer s.board s.turn (double_stepped s.turn square)) (772 + file square)

-- ---- all offsets

flag_or_later : (flag : Bool) (offset : ℕ) (xs : List ℕ) (n : ℕ) → Among (only_if flag offset ++ xs) n → (IsTrue flag × (n ≡ offset)) ⊎ Among xs n
flag_or_later flag offset xs n h = elim (among_either (only_if flag offset) xs n h) [ inl l ↦ inl (among_flag flag offset n l) | inr r ↦ inr r ]

distinct_after_flag : (flag : Bool) (offset : ℕ) (xs : List ℕ) → Distinct xs → ((n : ℕ) → Among xs n → offset < n) → Distinct (only_if flag offset ++ xs)
distinct_after_flag true offset xs once above = (λ again. let higher = above offset again in omega (arith, higher), once)
distinct_after_flag false offset xs once above = once

-- the offsets of castling rights
abbrev pub right_offsets : Rights → List ℕ
right_offsets r = of_rights r 768 769 770 771

above_flag : (flag : Bool) (offset low : ℕ) (xs : List ℕ) → low < offset → ((n : ℕ) → Among xs n → low < n) → (n : ℕ) → Among (only_if flag offset ++ xs) n → low < n
above_flag flag offset low xs less above n h = elim (flag_or_later flag offset xs n h) [ inl here ↦ omega (arith, less, here.1) | inr later ↦ above n later ]

above_last : (flag : Bool) (offset low : ℕ) → low < offset → (n : ℕ) → Among (only_if flag offset) n → low < n
above_last flag offset low less n h = let is = (among_flag flag offset n h).1 in omega (arith, less, is)

distinct_rights : (r : Rights) → Distinct (right_offsets r)
distinct_rights r =
    let fourth = only_if r.black_long 771 in
    let third = only_if r.black_short 770 ++ fourth in
    let second = only_if r.white_long 769 ++ third in
    distinct_after_flag r.white_short 768 second
    (distinct_after_flag r.white_long 769 third
    (distinct_after_flag r.black_short 770 fourth (distinct_flag r.black_long 771) (above_last r.black_long 771 770 (omega arith)))
    (above_flag r.black_short 770 769 fourth (omega arith) (above_last r.black_long 771 769 (omega arith))))
    (above_flag r.white_long 769 768 third (omega arith) (above_flag r.black_short 770 768 fourth (omega arith) (above_last r.black_long 771 768 (omega arith))))

right_offset : (r : Rights) (n : ℕ) → Among (right_offsets r) n → (768 ≤ n) × (n < 772)
right_offset r n h = elim (flag_or_later r.white_short 768 _ n h) [
  | inl a ↦ let is = a.1 in (omega arith, omega arith)
  | inr h ↦ elim (flag_or_later r.white_long 769 _ n h) [
    | inl b ↦ let is = b.1 in (omega arith, omega arith)
    | inr h ↦ elim (flag_or_later r.black_short 770 _ n h) [
      | inl c ↦ let is = c.1 in (omega arith, omega arith)
      | inr h ↦ let is = (among_flag r.black_long 771 n h).1 in (omega arith, omega arith)
    ]
  ]
]

en_passant_offset : (s : Position) (ep : Option ℕ) (n : ℕ) → Among (passing_offsets s ep) n → (772 ≤ n) × (n < 780)
en_passant_offset s ep n h = let p = among_en_passant s ep n h in let is = p.3 in (omega (arith, is), omega (arith, is))

distinct_rest : (s : Position) → Distinct (right_offsets s.rights ++ (en_passant_offsets s ++ turn_offsets s.turn))
distinct_rest s =
    let es = en_passant_offsets s in
    let ts = turn_offsets s.turn in
    let tail = distinct_append es ts (distinct_en_passant s s.ep) (distinct_turn s.turn) (λ n x y. let a = en_passant_offset s s.ep n x in let b = (among_turn s.turn n y).1 in omega (arith, a.1)) in
    distinct_append (right_offsets s.rights) (es ++ ts) (distinct_rights s.rights) tail (λ n x y.
    let a = right_offset s.rights n x in
    elim (among_either es ts n y) [
      | inl e ↦ let b = en_passant_offset s s.ep n e in omega (arith, a.1, b.0)
      | inr t ↦ let b = (among_turn s.turn n t).1 in omega (arith, a.1)
    ])

rest_high : (s : Position) (n : ℕ) → Among (right_offsets s.rights ++ (en_passant_offsets s ++ turn_offsets s.turn)) n → 768 ≤ n
rest_high s n h = elim (among_either (right_offsets s.rights) (en_passant_offsets s ++ turn_offsets s.turn) n h) [
  | inl a ↦ (right_offset s.rights n a).0
  | inr b ↦ elim (among_either (en_passant_offsets s) (turn_offsets s.turn) n b) [
    | inl e ↦ let p = en_passant_offset s s.ep n e in omega (arith, p.0)
    | inr t ↦ let is = (among_turn s.turn n t).1 in omega arith
  ]
]

distinct_offsets : (s : Position) → length s.board ≡ 64 → Distinct (offsets s)
distinct_offsets s full =
    distinct_append (piece_offsets s.board 0) (right_offsets s.rights ++ (en_passant_offsets s ++ turn_offsets s.turn)) (distinct_pieces s.board 0 (omega arith)) (distinct_rest s) (λ n x y.
    let low = low_square s.board 0 n (omega arith) (offset_on s.board 0 n x) in
    let high = rest_high s n y in
    omega (arith, low.1))

has_offset : (s : Position) (n : ℕ) → Among (offsets s) n → HasOffset s n
has_offset s n h =
    let rest = right_offsets s.rights ++ (en_passant_offsets s ++ turn_offsets s.turn) in
    elim (among_either (piece_offsets s.board 0) rest n h) [
      | inl p ↦ let at_board = offset_on s.board 0 n p in of_piece at_board.ahead at_board.piece at_board.stands (at_board.is ∙ ap (λ q. piece_offset at_board.piece q) (omega arith))
      | inr r ↦ elim (among_either (right_offsets s.rights) (en_passant_offsets s ++ turn_offsets s.turn) n r) [
        | inl a ↦ of_right (contains_among (right_offsets s.rights) n a)
        | inr b ↦ elim (among_either (en_passant_offsets s) (turn_offsets s.turn) n b) [
          | inl e ↦ let p = among_en_passant s s.ep n e in en_passant p.0 p.1 p.2 p.3
          | inr t ↦ let p = among_turn s.turn n t in white_to_move p.0 p.1
        ]
      ]
    ]

among_offsets : (s : Position) (n : ℕ) → HasOffset s n → Among (offsets s) n
among_offsets s n (of_piece square p stands is) =
    let rest = right_offsets s.rights ++ (en_passant_offsets s ++ turn_offsets s.turn) in
    let P : ℕ → Type 0 = λ m. Among (piece_offsets s.board 0) m in
    let e : piece_offset p (0 + square) ≡ n = ap (λ q. piece_offset p q) (omega arith) ∙ sym is in
    among_left (piece_offsets s.board 0) rest n (subst P e (among_pieces s.board 0 square p stands))
among_offsets s n (of_right h) =
    among_right (piece_offsets s.board 0) _ n (among_left (right_offsets s.rights) _ n (among_contained (right_offsets s.rights) n h))
among_offsets s n (en_passant square here capturer is) =
    among_right (piece_offsets s.board 0) _ n (among_right (right_offsets s.rights) _ n (among_left (en_passant_offsets s) _ n (en_passant_among s s.ep square n here capturer is)))
among_offsets s n (white_to_move white is) =
    among_right (piece_offsets s.board 0) _ n (among_right (right_offsets s.rights) _ n (among_right (en_passant_offsets s) _ n (turn_among s.turn n white is)))

pub are_offsets : (s : Position) → IsSetup s → AreOffsets s (offsets s)
are_offsets s setup = record {
  once = distinct_pairs (offsets s) (distinct_offsets s setup.places);
  each = λ n. (λ h. has_offset s n (among_contained (offsets s) n h), λ h. contains_among (offsets s) n (among_offsets s n h));
}
