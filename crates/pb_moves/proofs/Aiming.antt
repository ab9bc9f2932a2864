-- The pieces that point at a square, told by the sets of each kind.
use Rattle.std.proofs.Common.{◌≡◌, ◌≢◌, ℕ, ◌⊎◌, ◌↔◌, arith, inl, inr, subst, bit_and, bit_or}
use Rattle.pb_board.specs.declared.piece.Colour.{Colour}
use Rattle.pb_board.specs.declared.piece.Colour.TheVariants.{White, Black}
use Rattle.pb_board.specs.declared.piece.Kind.{Kind}
use Rattle.pb_board.specs.declared.piece.Kind.TheVariants.{Pawn, Knight, Bishop, Rook, Queen, King}
use Rattle.pb_board.specs.Board.{Board, Holds, IsForward}
use Rattle.pb_board.specs.Piece.{opponent, piece_of}
use Rattle.pb_moves.specs.Attackers.{In}
use Rattle.pb_moves.specs.Attacks.{Pattern, files_apart, ranks_apart}
use Rattle.pb_moves.specs.Candidate.{MayTarget, Aims}
use Rattle.pb_moves.proofs.Seen.{takes_told}
use Rattle.pb_moves.proofs.Sets.{in_and, in_both, in_first, in_or, in_second}

-- a pattern is the same from the other end
back : (kind : Kind) (a b : ℕ) → Pattern kind (files_apart a b) (ranks_apart a b) → Pattern kind (files_apart b a) (ranks_apart b a)
back kind a b h =
    let files : files_apart a b ≡ files_apart b a = omega arith in
    let ranks : ranks_apart a b ≡ ranks_apart b a = omega arith in
    subst (λ (r : ℕ). Pattern kind (files_apart b a) r) ranks (subst (λ (f : ℕ). Pattern kind f (ranks_apart a b)) files h)

forward_back : (side : Colour) (n a b : ℕ) → IsForward (opponent side) n b a → IsForward side n a b
forward_back White n a b h = h
forward_back Black n a b h = h

back_forward : (side : Colour) (n a b : ℕ) → IsForward side n a b → IsForward (opponent side) n b a
back_forward White n a b h = h
back_forward Black n a b h = h

-- what a pawn of the other side takes from the square
pub pawn_back : (side : Colour) (square a : ℕ) → (MayTarget (opponent side) Pawn square a × Pattern Bishop (files_apart square a) (ranks_apart square a)) ↔ Aims side Pawn a square
pawn_back side square a =
    let told = takes_told (opponent side) square a in (
      λ h. (let points = told.0 h in (back Pawn square a points.0, λ e. forward_back side 1 a square (points.1 e))),
      λ h. told.1 (back Pawn a square h.0, λ e. back_forward side 1 a square (h.1 e)),
    )

-- a has a piece of this kind; this kind points from the square at a; and some piece on a points back
abbrev Is : Board → ℕ → Kind → ℕ → Type 0
Is board a kind set = In set a ↔ ((colour : Colour) × Holds board a (piece_of colour kind))

abbrev IsPattern : ℕ → ℕ → Kind → ℕ → Type 0
IsPattern square a kind set = In set a ↔ Pattern kind (files_apart square a) (ranks_apart square a)

abbrev Some : Board → Colour → ℕ → ℕ → Type 0
Some board by square a = (colour : Colour) × (kind : Kind) × Holds board a (piece_of colour kind) × Aims by kind a square

one_to : (board : Board) (by : Colour) (square a : ℕ) (kind : Kind) (aims is : ℕ) → kind ≢ Pawn → IsPattern square a kind aims → Is board a kind is → In (bit_and aims is) a → Some board by square a
one_to board by square a kind aims is no_pawn pattern tells h =
    let w = in_and aims is a h in
    let stands = tells.0 w.1 in
    (stands.0, kind, stands.1, (back kind square a (pattern.0 w.0), λ pawn. absurd (no_pawn pawn)))

one_from : (board : Board) (by : Colour) (square a : ℕ) (kind : Kind) (aims is : ℕ) (colour : Colour) → IsPattern square a kind aims → Is board a kind is
    → Holds board a (piece_of colour kind) → Aims by kind a square → In (bit_and aims is) a
one_from board by square a kind aims is colour pattern tells stands points = in_both aims is a (pattern.1 (back kind a square points.0)) (tells.1 (colour, stands))

-- queens point as bishops and rooks do
bishop_queen : (f r : ℕ) → Pattern Bishop f r → Pattern Queen f r
bishop_queen f r h = (inl h.0, omega (arith, h.1))

rook_queen : (f r : ℕ) → Pattern Rook f r → Pattern Queen f r
rook_queen f r h = (inr h.0, h.1)

queen_either : (f r : ℕ) → Pattern Queen f r → Pattern Bishop f r ⊎ Pattern Rook f r
queen_either f r (inl same, some) = inl (same, omega arith)
queen_either f r (inr none, some) = inr (none, some)

slider_to : (board : Board) (by : Colour) (square a : ℕ) (kind : Kind) (aims is queens : ℕ) → kind ≢ Pawn → ((f r : ℕ) → Pattern kind f r → Pattern Queen f r)
    → IsPattern square a kind aims → Is board a kind is → Is board a Queen queens → In (bit_and aims (bit_or is queens)) a → Some board by square a
slider_to board by square a kind aims is queens no_pawn queen pattern tells queens_tell h =
    let w = in_and aims (bit_or is queens) a h in
    let points = pattern.0 w.0 in
    elim (in_or is queens a w.1) [
      | inl x ↦ (let stands = tells.0 x in (stands.0, kind, stands.1, (back kind square a points, λ pawn. absurd (no_pawn pawn))))
      | inr x ↦ (let stands = queens_tell.0 x in (stands.0, Queen, stands.1, (back Queen square a (queen _ _ points), λ pawn. absurd cc)))
    ]

-- the sets of each kind and of where it points from the square
pub record Sets (board : Board) (by : Colour) (square a p P n N b B r R k K Q : ℕ) : Type 0 where
  pub at_pawns : In p a ↔ Aims by Pawn a square
  pub pawns : Is board a Pawn P
  pub at_knights : IsPattern square a Knight n
  pub knights : Is board a Knight N
  pub at_bishops : IsPattern square a Bishop b
  pub bishops : Is board a Bishop B
  pub at_rooks : IsPattern square a Rook r
  pub rooks : Is board a Rook R
  pub at_kings : IsPattern square a King k
  pub kings : Is board a King K
  pub queens : Is board a Queen Q

module _ (board : Board) (by : Colour) (square a p P n N b B r R k K Q : ℕ) (sets : Sets board by square a p P n N b B r R k K Q) where
  abbrev four : ℕ
  four = bit_or (bit_or (bit_or (bit_and p P) (bit_and n N)) (bit_and b (bit_or B Q))) (bit_and r (bit_or R Q))

  abbrev three : ℕ
  three = bit_or (bit_or (bit_and p P) (bit_and n N)) (bit_and b (bit_or B Q))

  abbrev two : ℕ
  two = bit_or (bit_and p P) (bit_and n N)

  pub some_to : In (bit_or four (bit_and k K)) a → Some board by square a
  some_to h = elim (in_or four (bit_and k K) a h) [
    | inr x ↦ one_to board by square a King k K (λ e. cc) sets.at_kings sets.kings x
    | inl x ↦ elim (in_or three (bit_and r (bit_or R Q)) a x) [
      | inr y ↦ slider_to board by square a Rook r R Q (λ e. cc) rook_queen sets.at_rooks sets.rooks sets.queens y
      | inl y ↦ elim (in_or two (bit_and b (bit_or B Q)) a y) [
        | inr z ↦ slider_to board by square a Bishop b B Q (λ e. cc) bishop_queen sets.at_bishops sets.bishops sets.queens z
        | inl z ↦ elim (in_or (bit_and p P) (bit_and n N) a z) [
          | inr v ↦ one_to board by square a Knight n N (λ e. cc) sets.at_knights sets.knights v
          | inl v ↦ (let w = in_and p P a v in let stands = sets.pawns.0 w.1 in (stands.0, Pawn, stands.1, sets.at_pawns.0 w.0))
        ]
      ]
    ]
  ]

  pub some_from : (colour : Colour) (kind : Kind) → Holds board a (piece_of colour kind) → Aims by kind a square → In (bit_or four (bit_and k K)) a
  some_from colour Pawn stands points =
      in_first four (bit_and k K) a (in_first three (bit_and r (bit_or R Q)) a (in_first two (bit_and b (bit_or B Q)) a (in_first (bit_and p P) (bit_and n N) a
      (in_both p P a (sets.at_pawns.1 points) (sets.pawns.1 (colour, stands))))))
  some_from colour Knight stands points =
      in_first four (bit_and k K) a (in_first three (bit_and r (bit_or R Q)) a (in_first two (bit_and b (bit_or B Q)) a (in_second (bit_and p P) (bit_and n N) a
      (one_from board by square a Knight n N colour sets.at_knights sets.knights stands points))))
  some_from colour Bishop stands points =
      in_first four (bit_and k K) a (in_first three (bit_and r (bit_or R Q)) a (in_second two (bit_and b (bit_or B Q)) a
      (in_both b (bit_or B Q) a (sets.at_bishops.1 (back Bishop a square points.0)) (in_first B Q a (sets.bishops.1 (colour, stands))))))
  some_from colour Rook stands points =
      in_first four (bit_and k K) a (in_second three (bit_and r (bit_or R Q)) a
      (in_both r (bit_or R Q) a (sets.at_rooks.1 (back Rook a square points.0)) (in_first R Q a (sets.rooks.1 (colour, stands)))))
  some_from colour Queen stands points =
      let queen = sets.queens.1 (colour, stands) in
      elim (queen_either _ _ (back Queen a square points.0)) [
        | inl line ↦ in_first four (bit_and k K) a (in_first three (bit_and r (bit_or R Q)) a (in_second two (bit_and b (bit_or B Q)) a
            (in_both b (bit_or B Q) a (sets.at_bishops.1 line) (in_second B Q a queen))))
        | inr line ↦ in_first four (bit_and k K) a (in_second three (bit_and r (bit_or R Q)) a (in_both r (bit_or R Q) a (sets.at_rooks.1 line) (in_second R Q a queen)))
      ]
  some_from colour King stands points =
      in_second four (bit_and k K) a (one_from board by square a King k K colour sets.at_kings sets.kings stands points)
