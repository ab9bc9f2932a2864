-- What lies between two squares of one line, told from the two ends.
use Rattle.std.proofs.Common.{◌≡◌, ◌≢◌, ℕ, zero, suc, ◌*◌, ◌<◌, ◌⊎◌, ◌↔◌, arith, refl, subst, inl, inr, bit_and}
use Rattle.std.specs.Int.Bits.{bit_xor}
use Rattle.std.proofs.lemmas.Bool.{cases_lt, cases_order}
use Rattle.pb_board.specs.declared.piece.Kind.{Kind}
use Rattle.pb_board.specs.declared.piece.Kind.TheVariants.{Pawn, Knight, Bishop, Rook, Queen, King}
use Rattle.pb_moves.specs.Attackers.{In}
use Rattle.pb_moves.specs.Attacks.{IsBetween, Pattern, files_apart, ranks_apart}
use Rattle.pb_moves.proofs.Lines.{IsDiagonal, IsOrthogonal, LiesBetween, between_from, between_to, knight_from, straight_from, straight_to}
use Rattle.pb_moves.proofs.Sets.{in_and, in_both, in_one, of_one}
use Rattle.pb_moves.proofs.Targets.{up_from, up_tells}

-- the index of q lies between those of a and b
abbrev Between : ℕ → ℕ → ℕ → Type 0
Between a b q = ((a < q) × (q < b)) ⊎ ((b < q) × (q < a))

-- what is orthogonal from both ends and between them lies between
straight_inside : (a b q : ℕ) → IsOrthogonal a b → IsOrthogonal a q → IsOrthogonal b q → Between a b q → LiesBetween a q b
straight_inside a b q (inl s) (inl u) (inl v) w = record { not_first = λ e. omega arith; not_last = λ e. omega arith; files = omega arith; ranks = omega arith; on_diagonal = λ d. absurd (omega arith) }
straight_inside a b q (inl s) (inl u) (inr v) w = absurd (omega arith)
straight_inside a b q (inl s) (inr u) v w = absurd (omega arith)
straight_inside a b q (inr s) (inr u) (inr v) w = record { not_first = λ e. omega arith; not_last = λ e. omega arith; files = omega arith; ranks = omega arith; on_diagonal = λ d. absurd (omega arith) }
straight_inside a b q (inr s) (inr u) (inl v) w = absurd (omega arith)
straight_inside a b q (inr s) (inl u) v w = absurd (omega arith)

diagonal_inside : (a b q : ℕ) → IsDiagonal a b → IsDiagonal a q → IsDiagonal b q → Between a b q → LiesBetween a q b
diagonal_inside a b q s u v (inl w) = record { not_first = λ e. omega arith; not_last = λ e. omega arith; files = omega arith; ranks = omega arith; on_diagonal = λ d. u }
diagonal_inside a b q s u v (inr w) = record { not_first = λ e. omega arith; not_last = λ e. omega arith; files = omega arith; ranks = omega arith; on_diagonal = λ d. u }

-- and what lies between is on the line with both ends, and its index between theirs
straight_outside : (a b q : ℕ) → IsOrthogonal a b → LiesBetween a q b → IsOrthogonal a q × IsOrthogonal b q × Between a b q
straight_outside a b q (inl s) h =
    let f = h.files in
    let r = h.ranks in
    let na = h.not_first in
    let nb = h.not_last in
    elim (cases_order a b) [
      | inl e ↦ absurd (omega arith)
      | inr o ↦ elim o [
        | inl l ↦ (inl (omega arith, omega arith), inl (omega arith, omega arith), inl (omega arith, omega arith))
        | inr g ↦ (inl (omega arith, omega arith), inl (omega arith, omega arith), inr (omega arith, omega arith))
      ]
    ]
straight_outside a b q (inr s) h =
    let f = h.files in
    let r = h.ranks in
    let na = h.not_first in
    let nb = h.not_last in
    elim (cases_order a b) [
      | inl e ↦ absurd (omega arith)
      | inr o ↦ elim o [
        | inl l ↦ (inr (omega arith, omega arith), inr (omega arith, omega arith), inl (omega arith, omega arith))
        | inr g ↦ (inr (omega arith, omega arith), inr (omega arith, omega arith), inr (omega arith, omega arith))
      ]
    ]

diagonal_outside : (a b q : ℕ) → IsDiagonal a b → LiesBetween a q b → IsDiagonal a q × IsDiagonal b q × Between a b q
diagonal_outside a b q s h =
    let f = h.files in
    let r = h.ranks in
    let nb = h.not_last in
    let line = h.on_diagonal s in
    elim (cases_order a b) [
      | inl e ↦ absurd (omega arith)
      | inr o ↦ elim o [
        | inl l ↦ (line, (omega arith, omega arith), inl (omega arith, omega arith))
        | inr g ↦ (line, (omega arith, omega arith), inr (omega arith, omega arith))
      ]
    ]

-- a square in the set is on lines of this kind through a and b, one of which leads from a to b
abbrev OnLines : Kind → ℕ → ℕ → ℕ → ℕ → Type 0
OnLines kind set a b q = In set q ↔ Pattern kind (files_apart a b) (ranks_apart a b)
    × Pattern kind (files_apart a q) (ranks_apart a q) × Pattern kind (files_apart b q) (ranks_apart b q)

-- the squares from one end on and not from the other
up_to_one : (a b q : ℕ) → a < 64 → b < 64 → q < 64 → q ≢ a → q ≢ b → (In (bit_xor (up_from a) (up_from b)) q ↔ Between a b q)
up_to_one a b q x y z na nb =
    let from_a = up_tells a q x z in
    let from_b = up_tells b q y z in (
      λ h. elim (in_one (up_from a) (up_from b) q h) [
        | inl w ↦ elim (cases_lt q b) [ inl l ↦ inl (let le = from_a.0 w.0 in omega arith, l) | inr g ↦ absurd (w.1 (from_b.1 (omega arith))) ]
        | inr w ↦ elim (cases_lt q a) [ inl l ↦ inr (let le = from_b.0 w.0 in omega arith, l) | inr g ↦ absurd (w.1 (from_a.1 (omega arith))) ]
      ],
      λ h. of_one (up_from a) (up_from b) q (elim h [
        | inl w ↦ inl (from_a.1 (omega (arith, w.0)), λ in_b. let le = from_b.0 in_b in omega (arith, w.1))
        | inr w ↦ inr (from_b.1 (omega (arith, w.0)), λ in_a. let le = from_a.0 in_a in omega (arith, w.1))
      ]),
    )

rook_between : (a b q set : ℕ) → a < 64 → b < 64 → q < 64 → OnLines Rook set a b q
    → (In set q × In (bit_xor (up_from a) (up_from b)) q) ↔ (Pattern Rook (files_apart a b) (ranks_apart a b) × IsBetween a q b)
rook_between a b q set x y z has = (
  λ h.
      let line = has.0 h.0 in
      let ab = straight_from (files_apart a b) (ranks_apart a b) line.0.0 line.0.1 in
      let aq = straight_from (files_apart a q) (ranks_apart a q) line.1.0 line.1.1 in
      let bq = straight_from (files_apart b q) (ranks_apart b q) line.2.0 line.2.1 in
      let na : q ≢ a = λ e. elim aq [ inl u ↦ omega (arith, u.1) | inr u ↦ omega (arith, u.0) ] in
      let nb : q ≢ b = λ e. elim bq [ inl u ↦ omega (arith, u.1) | inr u ↦ omega (arith, u.0) ] in
      (line.0, between_to a q b (inr ab) (straight_inside a b q ab aq bq ((up_to_one a b q x y z na nb).0 h.1))),
  λ h.
      let o = straight_outside a b q (straight_from (files_apart a b) (ranks_apart a b) h.0.0 h.0.1) (between_from a q b h.1) in (
        has.1 (h.0, straight_to (files_apart a q) (ranks_apart a q) o.0, straight_to (files_apart b q) (ranks_apart b q) o.1),
        (up_to_one a b q x y z h.1.0 h.1.1).1 o.2,
      ),
)

bishop_between : (a b q set : ℕ) → a < 64 → b < 64 → q < 64 → OnLines Bishop set a b q
    → (In set q × In (bit_xor (up_from a) (up_from b)) q) ↔ (Pattern Bishop (files_apart a b) (ranks_apart a b) × IsBetween a q b)
bishop_between a b q set x y z has = (
  λ h.
      let line = has.0 h.0 in
      let na : q ≢ a = λ e. omega (arith, line.1.1) in
      let nb : q ≢ b = λ e. omega (arith, line.2.1) in
      (line.0, between_to a q b (inl line.0) (diagonal_inside a b q line.0 line.1 line.2 ((up_to_one a b q x y z na nb).0 h.1))),
  λ h.
      let o = diagonal_outside a b q h.0 (between_from a q b h.1) in
      (has.1 (h.0, o.0, o.1), (up_to_one a b q x y z h.1.0 h.1.1).1 o.2),
)

-- a piece that goes from a to b, and not straight, goes by a diagonal or as a knight
king_slants : (f r : ℕ) → Pattern King f r → ¬ Pattern Rook f r → Pattern Bishop f r
king_slants zero r h bent = absurd (bent (omega arith, omega (arith, h)))
king_slants (suc f) zero h bent = absurd (bent (omega arith, omega arith))
king_slants (suc f) (suc r) h bent = (omega (arith, h), omega arith)

slants_or_jumps : (kind : Kind) (f r : ℕ) → Pattern kind f r → ¬ Pattern Rook f r → Pattern Bishop f r ⊎ (((f ≡ 1) × (r ≡ 2)) ⊎ ((f ≡ 2) × (r ≡ 1)))
slants_or_jumps Pawn f r h bent = inl (omega (arith, h.0, h.1), omega (arith, h.0))
slants_or_jumps Knight f r h bent = inr (knight_from f r h)
slants_or_jumps Bishop f r h bent = inl h
slants_or_jumps Rook f r h bent = absurd (bent h)
slants_or_jumps Queen f r h bent = elim h.0 [ inl same ↦ inl (same, omega (arith, h.1)) | inr none ↦ absurd (bent (none, h.1)) ]
slants_or_jumps King f r h bent = inl (king_slants f r h bent)

-- the ends of a knight's move are of two colours, so no square is on diagonals of both
two_colours : (a b q : ℕ) → ((files_apart a b ≡ 1) × (ranks_apart a b ≡ 2)) ⊎ ((files_apart a b ≡ 2) × (ranks_apart a b ≡ 1))
    → files_apart a q ≡ ranks_apart a q → files_apart b q ≡ ranks_apart b q → ⊥
two_colours a b q (inl h) u v = omega (arith, h.0, h.1, u, v)
two_colours a b q (inr h) u v = omega (arith, h.0, h.1, u, v)

no_line : (f r : ℕ) → ((f ≡ 1) × (r ≡ 2)) ⊎ ((f ≡ 2) × (r ≡ 1)) → ¬ Pattern Queen f r
no_line f r (inl h) line = elim line.0 [ inl same ↦ omega (arith, h.0, h.1) | inr none ↦ (let two : f * r ≡ 2 = rw (h.0, h.1) refl in omega arith) ]
no_line f r (inr h) line = elim line.0 [ inl same ↦ omega (arith, h.0, h.1) | inr none ↦ (let two : f * r ≡ 2 = rw (h.0, h.1) refl in omega arith) ]

-- so the set that the code makes has the squares between, where a piece goes from a to b
on_lines : (kind : Kind) (a b q near far : ℕ) → Pattern kind (files_apart a b) (ranks_apart a b) → (In near q ↔ Pattern kind (files_apart a q) (ranks_apart a q))
    → (In far q ↔ Pattern kind (files_apart b q) (ranks_apart b q)) → OnLines kind (bit_and near far) a b q
on_lines kind a b q near far line from_a from_b = (
  λ h. (let both = in_and near far q h in (line, from_a.0 both.0, from_b.0 both.1)),
  λ h. in_both near far q (from_a.1 h.1) (from_b.1 h.2),
)

straight_told : (a b q near far : ℕ) → a < 64 → b < 64 → q < 64 → Pattern Rook (files_apart a b) (ranks_apart a b) → (In near q ↔ Pattern Rook (files_apart a q) (ranks_apart a q))
    → (In far q ↔ Pattern Rook (files_apart b q) (ranks_apart b q))
    → In (bit_and (bit_and near far) (bit_xor (up_from a) (up_from b))) q ↔ (Pattern Queen (files_apart a b) (ranks_apart a b) × IsBetween a q b)
straight_told a b q near far x y z line from_a from_b =
    let set = bit_and near far in
    let run = bit_xor (up_from a) (up_from b) in
    let told = rook_between a b q set x y z (on_lines Rook a b q near far line from_a from_b) in (
      λ h. ((inr line.0, line.1), (told.0 (in_and set run q h)).1),
      λ h. (let w = told.1 (line, h.1) in in_both set run q w.0 w.1),
    )

slant_told : (k : Kind) (a b q near far : ℕ) → a < 64 → b < 64 → q < 64 → Pattern k (files_apart a b) (ranks_apart a b) → ¬ Pattern Rook (files_apart a b) (ranks_apart a b)
    → (In near q ↔ Pattern Bishop (files_apart a q) (ranks_apart a q)) → (In far q ↔ Pattern Bishop (files_apart b q) (ranks_apart b q))
    → In (bit_and (bit_and near far) (bit_xor (up_from a) (up_from b))) q ↔ (Pattern Queen (files_apart a b) (ranks_apart a b) × IsBetween a q b)
slant_told k a b q near far x y z goes bent from_a from_b =
    let set = bit_and near far in
    let run = bit_xor (up_from a) (up_from b) in
    elim (slants_or_jumps k (files_apart a b) (ranks_apart a b) goes bent) [
      | inl line ↦
          (let told = bishop_between a b q set x y z (on_lines Bishop a b q near far line from_a from_b) in (
            (λ h. ((inl line.0, omega (arith, line.1)), (told.0 (in_and set run q h)).1)),
            (λ h. (let w = told.1 (line, h.1) in in_both set run q w.0 w.1)),
          ))
      | inr jumps ↦ (
        (λ h. (let w = in_and near far q (in_and set run q h).0 in absurd (two_colours a b q jumps (from_a.0 w.0).0 (from_b.0 w.1).0))),
        (λ h. absurd (no_line (files_apart a b) (ranks_apart a b) jumps h.0)),
      )
    ]

pub between_told : (k line : Kind) (a b q near far : ℕ) → a < 64 → b < 64 → q < 64 → Pattern k (files_apart a b) (ranks_apart a b)
    → ((line ≡ Rook) × Pattern Rook (files_apart a b) (ranks_apart a b)) ⊎ ((line ≡ Bishop) × ¬ Pattern Rook (files_apart a b) (ranks_apart a b))
    → (In near q ↔ Pattern line (files_apart a q) (ranks_apart a q)) → (In far q ↔ Pattern line (files_apart b q) (ranks_apart b q))
    → In (bit_and (bit_and near far) (bit_xor (up_from a) (up_from b))) q ↔ (Pattern Queen (files_apart a b) (ranks_apart a b) × IsBetween a q b)
between_told k line a b q near far x y z goes (inl (is, straight)) from_a from_b =
    let N : Kind → Type 0 = λ l. In near q ↔ Pattern l (files_apart a q) (ranks_apart a q) in
    let F : Kind → Type 0 = λ l. In far q ↔ Pattern l (files_apart b q) (ranks_apart b q) in
    straight_told a b q near far x y z straight (subst N is from_a) (subst F is from_b)
between_told k line a b q near far x y z goes (inr (is, bent)) from_a from_b =
    let N : Kind → Type 0 = λ l. In near q ↔ Pattern l (files_apart a q) (ranks_apart a q) in
    let F : Kind → Type 0 = λ l. In far q ↔ Pattern l (files_apart b q) (ranks_apart b q) in
    slant_told k a b q near far x y z goes bent (subst N is from_a) (subst F is from_b)
