-- The table of where a piece may go holds each such square and no other: tests over all pairs, computed
-- once.
use Rattle.std.proofs.Common.{◌≡◌, ℕ, ◌+◌, ◌<◌, ◌≤◌, ◌⊎◌, ◌↔◌, ◌&&◌, ◌||◌, refl, arith, ap, sym, ◌∙◌, inl, inr, Bool, true, false, eqb, ltb, leb, max, get_or, bit_or, ◌^◌, ◌%◌, ◌*◌, ◌/◌, bit_and, []}
use Rattle.std.specs.Int.{bit_at}
use Rattle.std.proofs.lemmas.Bool.{and_parts, eq-eqb, eqb-true, lt-ltb, ltb-true, le-leb, leb-true}
use Rattle.pb_board.specs.declared.piece.Colour.{Colour}
use Rattle.pb_board.specs.declared.piece.Colour.TheVariants.{White, Black}
use Rattle.pb_board.specs.Board.{file, rank, rank_for, IsForward}
use Rattle.pb_moves.specs.declared.target_tables.TheConstants.{TARGETS}
use Rattle.pb_board.specs.declared.piece.Kind.{Kind}
use Rattle.pb_board.specs.declared.piece.Kind.TheVariants.{Pawn, Knight, Bishop, Rook, Queen, King}
use Rattle.pb_moves.specs.Candidate.{MayTarget, Steps, target_row}
use Rattle.pb_moves.specs.Attacks.{Pattern, files_apart, ranks_apart}
use Rattle.pb_moves.proofs.Below.{all_below, all_below_at}

pub both : (x y : Bool) → x ≡ true → y ≡ true → (x && y) ≡ true
both x y p q = cc

pub either : (x y : Bool) → (x ≡ true) ⊎ (y ≡ true) → (x || y) ≡ true
either x y (inl p) = cc
either true y (inr q) = refl
either false y (inr q) = q

either_part : (x y : Bool) → (x || y) ≡ true → (x ≡ true) ⊎ (y ≡ true)
either_part true y h = inl refl
either_part false y h = inr h

-- ---- tests

abbrev pattern_test : Kind → ℕ → ℕ → Bool
pattern_test Pawn files ranks = eqb files 1 && eqb ranks 1
pattern_test Knight files ranks = eqb (files * ranks) 2
pattern_test Bishop files ranks = eqb files ranks && ltb 0 files
pattern_test Rook files ranks = eqb (files * ranks) 0 && ltb 0 (files + ranks)
pattern_test Queen files ranks = (eqb files ranks || eqb (files * ranks) 0) && ltb 0 (files + ranks)
pattern_test King files ranks = eqb (max files ranks) 1

abbrev forward_test : Colour → ℕ → ℕ → ℕ → Bool
forward_test White n a b = eqb (rank b) (rank a + n)
forward_test Black n a b = eqb (rank a) (rank b + n)

abbrev steps_test : Colour → ℕ → ℕ → Bool
steps_test side a b = eqb (file b) (file a) && (forward_test side 1 a b || (eqb (rank_for side a) 1 && forward_test side 2 a b))

abbrev target_test : Colour → Kind → ℕ → ℕ → Bool
target_test side Pawn a b = (pattern_test Pawn (files_apart a b) (ranks_apart a b) && forward_test side 1 a b) || steps_test side a b
target_test side kind a b = pattern_test kind (files_apart a b) (ranks_apart a b)

pattern_passes : (kind : Kind) (f r : ℕ) → Pattern kind f r → pattern_test kind f r ≡ true
pattern_passes Pawn f r h = both _ _ (eq-eqb f 1 h.0) (eq-eqb r 1 h.1)
pattern_passes Knight f r h = eq-eqb (f * r) 2 h
pattern_passes Bishop f r h = both _ _ (eq-eqb f r h.0) (lt-ltb 0 f h.1)
pattern_passes Rook f r h = both _ _ (eq-eqb (f * r) 0 h.0) (lt-ltb 0 (f + r) h.1)
pattern_passes Queen f r (inl e, some) = both _ _ (either _ _ (inl (eq-eqb f r e))) (lt-ltb 0 (f + r) some)
pattern_passes Queen f r (inr e, some) = both _ _ (either _ _ (inr (eq-eqb (f * r) 0 e))) (lt-ltb 0 (f + r) some)
pattern_passes King f r h = eq-eqb (max f r) 1 h

pattern_passed : (kind : Kind) (f r : ℕ) → pattern_test kind f r ≡ true → Pattern kind f r
pattern_passed Pawn f r h = let w = and_parts (eqb f 1) (eqb r 1) h in (eqb-true f 1 w.0, eqb-true r 1 w.1)
pattern_passed Knight f r h = eqb-true (f * r) 2 h
pattern_passed Bishop f r h = let w = and_parts (eqb f r) (ltb 0 f) h in (eqb-true f r w.0, ltb-true 0 f w.1)
pattern_passed Rook f r h = let w = and_parts (eqb (f * r) 0) (ltb 0 (f + r)) h in (eqb-true (f * r) 0 w.0, ltb-true 0 (f + r) w.1)
pattern_passed Queen f r h =
    let w = and_parts (eqb f r || eqb (f * r) 0) (ltb 0 (f + r)) h in (
      elim (either_part (eqb f r) (eqb (f * r) 0) w.0) [ inl e ↦ inl (eqb-true f r e) | inr e ↦ inr (eqb-true (f * r) 0 e) ],
      ltb-true 0 (f + r) w.1,
    )
pattern_passed King f r h = eqb-true (max f r) 1 h

forward_passes : (side : Colour) (n a b : ℕ) → IsForward side n a b → forward_test side n a b ≡ true
forward_passes White n a b h = eq-eqb (rank b) (rank a + n) h
forward_passes Black n a b h = eq-eqb (rank a) (rank b + n) h

forward_passed : (side : Colour) (n a b : ℕ) → forward_test side n a b ≡ true → IsForward side n a b
forward_passed White n a b h = eqb-true (rank b) (rank a + n) h
forward_passed Black n a b h = eqb-true (rank a) (rank b + n) h

steps_passes : (side : Colour) (a b : ℕ) → Steps side a b → steps_test side a b ≡ true
steps_passes side a b (same, inl one) = both _ _ (eq-eqb (file b) (file a) same) (either _ _ (inl (forward_passes side 1 a b one)))
steps_passes side a b (same, inr two) = both _ _ (eq-eqb (file b) (file a) same) (either _ _ (inr (both _ _ (eq-eqb (rank_for side a) 1 two.0) (forward_passes side 2 a b two.1))))

steps_passed : (side : Colour) (a b : ℕ) → steps_test side a b ≡ true → Steps side a b
steps_passed side a b h =
    let w = and_parts (eqb (file b) (file a)) (forward_test side 1 a b || (eqb (rank_for side a) 1 && forward_test side 2 a b)) h in (
      eqb-true (file b) (file a) w.0,
      elim (either_part (forward_test side 1 a b) (eqb (rank_for side a) 1 && forward_test side 2 a b) w.1) [
        | inl one ↦ inl (forward_passed side 1 a b one)
        | inr two ↦ (let t = and_parts (eqb (rank_for side a) 1) (forward_test side 2 a b) two in inr (eqb-true (rank_for side a) 1 t.0, forward_passed side 2 a b t.1))
      ],
    )

piece_passes : (side : Colour) (kind : Kind) (a b : ℕ) → MayTarget side kind a b → target_test side kind a b ≡ true
piece_passes side Pawn a b (inl h) = either _ _ (inl (both _ _ (pattern_passes Pawn (files_apart a b) (ranks_apart a b) h.0) (forward_passes side 1 a b (h.1 refl))))
piece_passes side Pawn a b (inr h) = either _ _ (inr (steps_passes side a b h.1))
piece_passes side Knight a b (inl h) = pattern_passes Knight (files_apart a b) (ranks_apart a b) h.0
piece_passes side Bishop a b (inl h) = pattern_passes Bishop (files_apart a b) (ranks_apart a b) h.0
piece_passes side Rook a b (inl h) = pattern_passes Rook (files_apart a b) (ranks_apart a b) h.0
piece_passes side Queen a b (inl h) = pattern_passes Queen (files_apart a b) (ranks_apart a b) h.0
piece_passes side King a b (inl h) = pattern_passes King (files_apart a b) (ranks_apart a b) h.0
piece_passes side k a b (inr h) = absurd (let pawn = h.0 in cc)

piece_passed : (side : Colour) (kind : Kind) (a b : ℕ) → target_test side kind a b ≡ true → MayTarget side kind a b
piece_passed side Pawn a b h =
    elim (either_part (pattern_test Pawn (files_apart a b) (ranks_apart a b) && forward_test side 1 a b) (steps_test side a b) h) [
      | inl takes ↦
          (let w = and_parts (pattern_test Pawn (files_apart a b) (ranks_apart a b)) (forward_test side 1 a b) takes in
          inl (pattern_passed Pawn (files_apart a b) (ranks_apart a b) w.0, λ e. forward_passed side 1 a b w.1))
      | inr steps ↦ inr (refl, steps_passed side a b steps)
    ]
piece_passed side Knight a b h = inl (pattern_passed Knight (files_apart a b) (ranks_apart a b) h, λ e. absurd cc)
piece_passed side Bishop a b h = inl (pattern_passed Bishop (files_apart a b) (ranks_apart a b) h, λ e. absurd cc)
piece_passed side Rook a b h = inl (pattern_passed Rook (files_apart a b) (ranks_apart a b) h, λ e. absurd cc)
piece_passed side Queen a b h = inl (pattern_passed Queen (files_apart a b) (ranks_apart a b) h, λ e. absurd cc)
piece_passed side King a b h = inl (pattern_passed King (files_apart a b) (ranks_apart a b) h, λ e. absurd cc)

-- ---- the table

-- the bit of a square that passes, or of one that does not
abbrev pub bit_for : Bool → ℕ
bit_for true = 1
bit_for false = 0

-- targets have the bit of each square that passes, and no other
abbrev pub tells : (ℕ → ℕ) → (ℕ → ℕ → Bool) → ℕ → ℕ → Bool
tells targets passes a b = eqb (bit_at (targets a) b) (bit_for (passes a b))

abbrev pub is_right : (ℕ → ℕ) → (ℕ → ℕ → Bool) → Bool
is_right targets passes = all_below (λ a. all_below (tells targets passes a) 64) 64

bit_is : (targets : ℕ → ℕ) (passes : ℕ → ℕ → Bool) (a b : ℕ) → is_right targets passes ≡ true → a < 64 → b < 64 → bit_at (targets a) b ≡ bit_for (passes a b)
bit_is targets passes a b right on_a on_b =
    let row = all_below_at (λ k. all_below (tells targets passes k) 64) 64 a right on_a in
    eqb-true (bit_at (targets a) b) (bit_for (passes a b)) (all_below_at (tells targets passes a) 64 b row on_b)

one_passes : (pass : Bool) → bit_for pass ≡ 1 → pass ≡ true
one_passes true e = refl
one_passes false e = absurd (omega arith)

-- the bit of a square is 1 just where the fact holds that the test decides
pub bit_tells : (targets : ℕ → ℕ) (passes : ℕ → ℕ → Bool) (a b : ℕ) (P : Type 0) → is_right targets passes ≡ true → a < 64 → b < 64
    → (P → passes a b ≡ true) → (passes a b ≡ true → P) → (bit_at (targets a) b ≡ 1) ↔ P
bit_tells targets passes a b P right on_a on_b pass back = (
  λ one. back (one_passes (passes a b) (sym (bit_is targets passes a b right on_a on_b) ∙ one)),
  λ p. bit_is targets passes a b right on_a on_b ∙ ap (λ (x : Bool). bit_for x) (pass p),
)

abbrev pub entry : ℕ → ℕ → ℕ
entry row a = get_or (get_or TARGETS row []) a 0

rows_right : (side : Colour) (kind : Kind) → is_right (entry (target_row kind side)) (target_test side kind) ≡ true
rows_right White Pawn = refl
rows_right Black Pawn = refl
rows_right side Knight = refl
rows_right side Bishop = refl
rows_right side Rook = refl
rows_right side Queen = refl
rows_right side King = refl

pub row_tells : (side : Colour) (kind : Kind) (a b : ℕ) → a < 64 → b < 64 → (bit_at (entry (target_row kind side) a) b ≡ 1) ↔ MayTarget side kind a b
row_tells side kind a b x y =
    bit_tells (entry (target_row kind side)) (target_test side kind) a b (MayTarget side kind a b) (rows_right side kind) x y (piece_passes side kind a b) (piece_passed side kind a b)

-- ---- squares by shifts

-- those two files aside
abbrev pub two_aside : ℕ → ℕ
two_aside a = bit_and (bit_or (1 * 2 ^ a % 2 ^ 64 * 4 % 2 ^ 64) (1 * 2 ^ a % 2 ^ 64 / 4)) (255 * 2 ^ bit_and a 56 % 2 ^ 64)

aside_is_right : is_right two_aside (λ a b. eqb (files_apart a b) 2 && eqb (ranks_apart a b) 0) ≡ true
aside_is_right = refl

pub aside_tells : (a b : ℕ) → a < 64 → b < 64 → (bit_at (two_aside a) b ≡ 1) ↔ ((files_apart a b ≡ 2) × (ranks_apart a b ≡ 0))
aside_tells a b x y =
    bit_tells two_aside (λ a b. eqb (files_apart a b) 2 && eqb (ranks_apart a b) 0) a b ((files_apart a b ≡ 2) × (ranks_apart a b ≡ 0)) aside_is_right x y
    (λ h. both _ _ (eq-eqb (files_apart a b) 2 h.0) (eq-eqb (ranks_apart a b) 0 h.1))
    (λ h. let w = and_parts (eqb (files_apart a b) 2) (eqb (ranks_apart a b) 0) h in (eqb-true (files_apart a b) 2 w.0, eqb-true (ranks_apart a b) 0 w.1))

-- those from one on
abbrev pub up_from : ℕ → ℕ
up_from a = 18446744073709551615 * 2 ^ a % 2 ^ 64

up_is_right : is_right up_from leb ≡ true
up_is_right = refl

pub up_tells : (a b : ℕ) → a < 64 → b < 64 → (bit_at (up_from a) b ≡ 1) ↔ (a ≤ b)
up_tells a b x y = bit_tells up_from leb a b (a ≤ b) up_is_right x y (le-leb a b) (leb-true a b)
