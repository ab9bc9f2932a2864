-- Squares between two, and patterns by the differences of files and ranks.
use Rattle.std.proofs.Common.{◌≡◌, ◌≢◌, ℕ, zero, suc, ◌+◌, ◌*◌, ◌/◌, ◌<◌, ◌≤◌, ◌⊎◌, ◌↔◌, Bool, true, false, not, IsTrue, refl, arith, inl, inr, sym, ap, subst, ◌∙◌}
use Rattle.std.proofs.Math.Nat.{mul-div_cancel}
use Rattle.std.proofs.lemmas.Bool.{cases_lt}
use Rattle.pb_board.specs.declared.piece.Colour.{Colour}
use Rattle.pb_board.specs.Board.{Board}
use Rattle.pb_moves.specs.Attacks as chess
use Rattle.pb_moves.specs.Attacks.{files_apart, ranks_apart}

-- the absolute differences are equal and not 0
abbrev pub IsDiagonal : ℕ → ℕ → Type 0
IsDiagonal a b = (files_apart a b ≡ ranks_apart a b) × (0 < files_apart a b)

-- exactly one difference is 0
abbrev pub IsOrthogonal : ℕ → ℕ → Type 0
IsOrthogonal a b =
    ((files_apart a b ≡ 0) × (0 < ranks_apart a b))
    ⊎ ((0 < files_apart a b) × (ranks_apart a b ≡ 0))

-- the absolute differences are 1 and 2
abbrev IsKnightsMove : ℕ → ℕ → Type 0
IsKnightsMove a b =
    ((files_apart a b ≡ 1) × (ranks_apart a b ≡ 2))
    ⊎ ((files_apart a b ≡ 2) × (ranks_apart a b ≡ 1))

-- q lies strictly between a and b, which are on one file, rank or diagonal
pub record LiesBetween (a q b : ℕ) : Type 0 where
  pub not_first : q ≢ a
  pub not_last : q ≢ b
  pub files : files_apart a q + files_apart q b ≡ files_apart a b
  pub ranks : ranks_apart a q + ranks_apart q b ≡ ranks_apart a b
  pub on_diagonal : IsDiagonal a b → IsDiagonal a q

-- ---- squares between

abbrev pub IsLine : ℕ → ℕ → Type 0
IsLine a b = IsDiagonal a b ⊎ IsOrthogonal a b

line_first : (f g r h n m : ℕ) → f + g ≡ n → r + h ≡ m → n ≡ 0 → f * m ≡ r * n
line_first f g r h n m e k z = let zero_f : f ≡ 0 = omega arith in rw (zero_f, z) (omega arith)

line_second : (f g r h n m : ℕ) → f + g ≡ n → r + h ≡ m → m ≡ 0 → f * m ≡ r * n
line_second f g r h n m e k z = let zero_r : r ≡ 0 = omega arith in rw (zero_r, z) (omega arith)

cancels : (f r n m : ℕ) → f * m ≡ r * n → n ≡ m → 0 < n → f ≡ r
cancels f r n m e same some =
    let left : f * n / n ≡ f = mul-div_cancel f some in
    let right : r * n / n ≡ r = mul-div_cancel r some in
    let products : f * n ≡ r * n = ap (λ x. f * x) same ∙ e in
    sym left ∙ ap (λ x. x / n) products ∙ right

positive : (n : ℕ) → (n ≡ 0 → ⊥) → 0 < n
positive n some = elim (cases_lt 0 n) [ inl l ↦ l | inr g ↦ absurd (some (omega arith)) ]

-- two squares are some files or ranks apart
apart_some : (a q : ℕ) → q ≢ a → 0 < files_apart a q + ranks_apart a q
apart_some a q ne = positive (files_apart a q + ranks_apart a q) (λ none. ne (omega arith))

pub between_to : (a q b : ℕ) → IsLine a b → LiesBetween a q b → chess.IsBetween a q b
between_to a q b (inl d) h =
    let slant = h.on_diagonal d in
    (h.not_first, h.not_last, h.files, h.ranks, rw (slant.0, d.0) refl)
between_to a q b (inr (inl s)) h = (
  h.not_first,
  h.not_last,
  h.files,
  h.ranks,
  line_first (files_apart a q) (files_apart q b) (ranks_apart a q) (ranks_apart q b) (files_apart a b) (ranks_apart a b) h.files h.ranks s.0,
)
between_to a q b (inr (inr s)) h = (
  h.not_first,
  h.not_last,
  h.files,
  h.ranks,
  line_second (files_apart a q) (files_apart q b) (ranks_apart a q) (ranks_apart q b) (files_apart a b) (ranks_apart a b) h.files h.ranks s.1,
)

slants : (f r n m : ℕ) → f * m ≡ r * n → (n ≡ m) × (0 < n) → 0 < f + r → (f ≡ r) × (0 < f)
slants f r n m line d some = let same : f ≡ r = cancels f r n m line d.0 d.1 in (same, omega arith)

pub between_from : (a q b : ℕ) → chess.IsBetween a q b → LiesBetween a q b
between_from a q b h = record {
  not_first = h.0;
  not_last = h.1;
  files = h.2;
  ranks = h.3;
  on_diagonal = λ d. slants (files_apart a q) (ranks_apart a q) (files_apart a b) (ranks_apart a b) h.4 d (apart_some a q h.0);
}

-- nothing lies between squares that are one step apart, or a knight's move
none_between : (f g r h n m : ℕ) → f + g ≡ n → r + h ≡ m → f * m ≡ r * n → 0 < f + r → 0 < g + h → ((n ≤ 1) × (m ≤ 1)) ⊎ (((n ≡ 1) × (m ≡ 2)) ⊎ ((n ≡ 2) × (m ≡ 1))) → ⊥
none_between f g r h zero m e k line some more (inl few) = omega arith
none_between f g r h (suc zero) zero e k line some more (inl few) = omega arith
none_between f g r h (suc zero) (suc zero) e k line some more (inl few) = omega arith
none_between f g r h (suc zero) (suc (suc m)) e k line some more (inl few) = omega arith
none_between f g r h (suc (suc n)) m e k line some more (inl few) = omega arith
none_between f g r h n m e k line some more (inr (inl one)) =
    let l : f * 2 ≡ r * 1 = ap (λ x. f * x) (sym one.1) ∙ line ∙ ap (λ x. r * x) one.0 in omega arith
none_between f g r h n m e k line some more (inr (inr two)) =
    let l : f * 1 ≡ r * 2 = ap (λ x. f * x) (sym two.1) ∙ line ∙ ap (λ x. r * x) two.0 in omega arith

abbrev IsNear : ℕ → ℕ → Type 0
IsNear a b = ((files_apart a b ≤ 1) × (ranks_apart a b ≤ 1)) ⊎ IsKnightsMove a b

pub no_near : (board : Board) (a b : ℕ) → IsNear a b → chess.Clear board a b
no_near board a b near q on h =
    absurd (none_between (files_apart a q) (files_apart q b) (ranks_apart a q) (ranks_apart q b) (files_apart a b) (ranks_apart a b) h.2 h.3 h.4
    (apart_some a q h.0) (apart_some q b (λ e. h.1 (sym e))) near)

-- ---- what a piece attacks

-- products of the differences

pub knight_from : (f r : ℕ) → f * r ≡ 2 → ((f ≡ 1) × (r ≡ 2)) ⊎ ((f ≡ 2) × (r ≡ 1))
knight_from zero r h = absurd (omega arith)
knight_from (suc zero) r h = inl (refl, omega arith)
knight_from (suc (suc zero)) r h = inr (refl, omega arith)
knight_from (suc (suc (suc f))) zero h = absurd (omega arith)
knight_from (suc (suc (suc f))) (suc r) h = absurd (omega arith)

pub straight_to : (f r : ℕ) → ((f ≡ 0) × (0 < r)) ⊎ ((0 < f) × (r ≡ 0)) → (f * r ≡ 0) × (0 < f + r)
straight_to zero r (inl h) = (omega arith, omega (arith, h.1))
straight_to (suc f) r (inl h) = absurd (omega (arith, h.0))
straight_to f zero (inr h) = (omega arith, omega (arith, h.0))
straight_to f (suc r) (inr h) = absurd (omega (arith, h.1))

pub straight_from : (f r : ℕ) → f * r ≡ 0 → 0 < f + r → ((f ≡ 0) × (0 < r)) ⊎ ((0 < f) × (r ≡ 0))
straight_from zero r h some = inl (refl, omega arith)
straight_from (suc f) zero h some = inr (omega arith, refl)
straight_from (suc f) (suc r) h some = absurd (omega arith)

-- ---- what a test tells

pub untold : (b : Bool) (P : Type 0) → (IsTrue b ↔ P) → (IsTrue (not b) ↔ ¬ P)
untold true P h = ((λ n. absurd cc), λ none. absurd (none (h.0 refl)))
untold false P h = ((λ n p. let t = h.1 p in cc), λ none. refl)

pub attacked_at : (hit : Bool) (board : Board) (by enemy : Colour) (q square : ℕ) → (IsTrue hit ↔ chess.IsAttacked board by q) → by ≡ enemy → q ≡ square → (IsTrue hit ↔ chess.IsAttacked board enemy square)
attacked_at hit board by enemy q square h e k =
    let A : Colour → Type 0 = λ x. IsTrue hit ↔ chess.IsAttacked board x q in
    let Q : ℕ → Type 0 = λ x. IsTrue hit ↔ chess.IsAttacked board enemy x in
    subst Q k (subst A e h)
