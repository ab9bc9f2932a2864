-- Where a piece goes, told by its targets, the way of a pawn, and what stands between.
use Rattle.std.proofs.Common.{◌≡◌, ◌≢◌, ◌↔◌, ◌⊎◌, ℕ, Bool, true, false, not, IsTrue, refl, inl, inr, if◌then◌else◌}
use Rattle.pb_board.specs.declared.piece.Colour.{Colour}
use Rattle.pb_board.specs.declared.piece.Kind.{Kind}
use Rattle.pb_board.specs.declared.piece.Kind.TheVariants.{Pawn, Bishop, Rook}
use Rattle.pb_board.specs.Board.{Board, IsEmpty}
use Rattle.pb_moves.specs.Attackers.{IsOccupied}
use Rattle.pb_moves.specs.Attacks.{Attacks, Clear, Pattern, files_apart, ranks_apart}
use Rattle.pb_moves.specs.Candidate.{MayTarget, Steps}
use Rattle.pb_moves.proofs.Seen.{Open, attack_of, clear_if_open, open_if_clear, points_of, steps_told, takes_told}

-- what the code finds
abbrev Found : Colour → Kind → ℕ → Bool → ℕ → ℕ → Type 0
Found side kind occ empty a b = MayTarget side kind a b
    × (kind ≡ Pawn → Pattern (if not empty then Bishop else Rook) (files_apart a b) (ranks_apart a b))
    × Open occ a b

abbrev Goes : Colour → Kind → Board → ℕ → ℕ → Type 0
Goes side kind board a b =
    (Attacks side kind board a b × (kind ≡ Pawn → ¬ IsEmpty board b))
    ⊎ ((kind ≡ Pawn) × Steps side a b × Clear board a b × IsEmpty board b)

not_true : IsTrue false → ⊥
not_true e = cc

pawn_told : (side : Colour) (board : Board) (a b occ : ℕ) (empty : Bool) → IsOccupied occ board → (IsTrue empty ↔ IsEmpty board b)
    → Found side Pawn occ empty a b ↔ Goes side Pawn board a b
pawn_told side board a b occ true taken is = (
  λ h.
      let steps = (steps_told side a b).0 (h.0, h.1 refl) in
      let line = (steps_told side a b).1 steps in
      inr (refl, steps, clear_if_open board occ a b taken h.2 (inr line.1.0, line.1.1), is.0 refl),
  λ goes. elim goes [
    | inl takes ↦ absurd (takes.1 refl (is.0 refl))
    | inr steps ↦ (let line = (steps_told side a b).1 steps.1 in (line.0, (λ e. line.1), open_if_clear board occ a b taken steps.2))
  ],
)
pawn_told side board a b occ false taken is = (
  λ h.
      let points = (takes_told side a b).0 (h.0, h.1 refl) in
      inl (attack_of side Pawn board a b points (clear_if_open board occ a b taken h.2), λ e none. not_true (is.1 none)),
  λ goes. elim goes [
    | inl takes ↦
        (let line = (takes_told side a b).1 (points_of side Pawn board a b takes.0) in
        (line.0, (λ e. line.1), open_if_clear board occ a b taken takes.0.2))
    | inr steps ↦ absurd (not_true (is.1 steps.3))
  ],
)

piece_told : (side : Colour) (kind : Kind) (board : Board) (a b occ : ℕ) (empty : Bool) → kind ≢ Pawn → IsOccupied occ board
    → Found side kind occ empty a b ↔ Goes side kind board a b
piece_told side kind board a b occ empty no_pawn taken = (
  λ h.
      let clear = clear_if_open board occ a b taken h.2 in
      elim h.0 [
        | inl points ↦ inl (attack_of side kind board a b points clear, λ pawn. absurd (no_pawn pawn))
        | inr steps ↦ absurd (no_pawn steps.0)
      ],
  λ goes. elim goes [
    | inl attacks ↦ (inl (points_of side kind board a b attacks.0), (λ pawn. absurd (no_pawn pawn)), open_if_clear board occ a b taken attacks.0.2)
    | inr steps ↦ absurd (no_pawn steps.0)
  ],
)

pub goes_told : (side : Colour) (kind : Kind) (board : Board) (a b occ : ℕ) (empty : Bool) → IsOccupied occ board → (IsTrue empty ↔ IsEmpty board b)
    → Found side kind occ empty a b ↔ Goes side kind board a b
goes_told side Pawn board a b occ empty taken is = pawn_told side board a b occ empty taken is
goes_told side kind board a b occ empty taken is = piece_told side kind board a b occ empty (λ e. cc) taken
