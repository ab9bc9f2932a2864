-- The first refusal that is due.
use Rattle.std.proofs.Common.{◌≡◌, ℕ, zero, suc, ◌+◌, ◌-◌, ◌<◌, ◌≤◌, List, [], ◌∷◌, ◌++◌, length, get_or, take, drop, refl, sym, ap, subst, ◌∙◌, inl, inr, arith}
use Rattle.std.specs.Prelude.{All}
use Rattle.std.proofs.lemmas.Bool.{cases_eq}
use Rattle.std.proofs.lemmas.List.{drop_more, get_or-take, length-take, take-append-drop}
use Rattle.std.proofs.lemmas.List.Elements.{All-nil, All-cons, All-weaker}
use Rattle.pb_board.specs.declared.refusal.FenError.{FenError}
use Rattle.pb_board.specs.declared.refusal.FenError.TheVariants as fen
use Rattle.pb_games.specs.declared.refusal.Refusal.{Refusal}
use Rattle.pb_games.specs.declared.refusal.Refusal.TheVariants as refusal
use Rattle.pb_games.specs.Cuts.{fields_of}
use Rattle.pb_games.specs.Refusing as refusing
use Rattle.pb_games.specs.Refusing.{Refuses, in_order}

-- this refusal of the line is due
abbrev pub IsDue : Refusal → List ℕ → Type 0
IsDue r line = refusing.IsDue line (fields_of line) r

-- ---- positions in the order

-- the position of each refusal in the order, from 1, and after them the refusals that look at more
-- than the line
abbrev pub order : Refusal → ℕ
order refusal.Long = 1
order refusal.Shape = 2
order refusal.Id = 3
order refusal.Result = 4
order (refusal.Fen e) = 5
order refusal.Start = 6
order (refusal.Spelling n) = 7
order refusal.Plies = 8
order (refusal.Illegal n) = 9
order _ = 10

-- refusals at the positions from the n-th on
abbrev AreFrom : ℕ → List Refusal → Type 0
AreFrom n [] = Unit {0}
AreFrom n (r ∷ rs) = (order r ≡ n) × AreFrom (suc n) rs

all_from : (e : FenError) (m n : ℕ) → AreFrom 1 (in_order e m n)
all_from e m n = (refl, (refl, (refl, (refl, (refl, (refl, (refl, (refl, (refl, tt)))))))))

position_of : (n : ℕ) (before : List Refusal) (r : Refusal) (after : List Refusal) → AreFrom n (before ++ r ∷ after) → order r ≡ n + length before
position_of n [] r after are = omega (arith, are.0)
position_of n (d ∷ before) r after are = omega (arith, position_of (suc n) before r after are.1)

are_before : (n : ℕ) (before : List Refusal) (r : Refusal) (after : List Refusal) → AreFrom n (before ++ r ∷ after) → All (λ d. order d < order r) before
are_before n [] r after are = All-nil (λ d. order d < order r)
are_before n (d ∷ before) r after are =
    All-cons (λ d. order d < order r) d before (omega (arith, are.0, position_of n (d ∷ before) r after are)) (are_before (suc n) before r after are.1)

-- the cause or the number of a refusal, where it has one
abbrev cause_of : Refusal → FenError → FenError
cause_of (refusal.Fen e) other = e
cause_of _ other = other

abbrev token_of : Refusal → ℕ → ℕ
token_of (refusal.Spelling n) other = n
token_of _ other = other

abbrev move_of : Refusal → ℕ → ℕ
move_of (refusal.Illegal n) other = n
move_of _ other = other

cause_stays : (d : Refusal) (e : FenError) → order d < 5 → cause_of d e ≡ e
cause_stays (refusal.Fen x) e lt = absurd (omega (arith, lt))
cause_stays _ e lt = refl

token_stays : (d : Refusal) (n : ℕ) → order d < 7 → token_of d n ≡ n
token_stays (refusal.Spelling m) n lt = absurd (omega (arith, lt))
token_stays _ n lt = refl

move_stays : (d : Refusal) (n : ℕ) → order d < 9 → move_of d n ≡ n
move_stays (refusal.Illegal m) n lt = absurd (omega (arith, lt))
move_stays _ n lt = refl

stands : (d : Refusal) (e : FenError) (m n : ℕ) → order d < 10 → get_or (in_order (cause_of d e) (token_of d m) (move_of d n)) (order d - 1) d ≡ d
stands refusal.Long e m n lt = refl
stands refusal.Shape e m n lt = refl
stands refusal.Id e m n lt = refl
stands refusal.Result e m n lt = refl
stands (refusal.Fen c) e m n lt = refl
stands refusal.Start e m n lt = refl
stands (refusal.Spelling k) e m n lt = refl
stands refusal.Plies e m n lt = refl
stands (refusal.Illegal k) e m n lt = refl
stands _ e m n lt = absurd (omega (arith, lt))

-- a list of the refusals in which both of these stand
abbrev both : Refusal → Refusal → List Refusal
both d e = in_order (cause_of d (cause_of e fen.Fields)) (token_of d (token_of e 0)) (move_of d (move_of e 0))

stands_later : (d e : Refusal) → order d < order e → order e < 10 → get_or (both d e) (order e - 1) e ≡ e
stands_later d refusal.Long less lt = refl
stands_later d refusal.Shape less lt = refl
stands_later d refusal.Id less lt = refl
stands_later d refusal.Result less lt = refl
stands_later d (refusal.Fen c) less lt = ap (λ x. refusal.Fen x) (cause_stays d c less)
stands_later d refusal.Start less lt = refl
stands_later d (refusal.Spelling k) less lt = ap (λ x. refusal.Spelling x) (token_stays d k less)
stands_later d refusal.Plies less lt = refl
stands_later d (refusal.Illegal k) less lt = ap (λ x. refusal.Illegal x) (move_stays d k less)
stands_later d _ less lt = absurd (omega (arith, lt))

pub first_position : (d : Refusal) → 1 ≤ order d
first_position refusal.Long = omega arith
first_position _ = omega arith

due_position : (e : Refusal) (line : List ℕ) → IsDue e line → order e < 10
due_position (refusal.Conflict n) line due = absurd due
due_position refusal.Full line due = absurd due
due_position refusal.Memory line due = absurd due
due_position _ line due = omega arith

-- ---- what stands before a refusal is what has a lower position

pub none_before : (line : List ℕ) (e : Refusal) → Refuses line e → (d : Refusal) → order d < order e → ¬ IsDue d line
none_before line e h d less due =
    let k = order e - 1 in
    let xs = both d e in
    let low : order d - 1 < k = omega (arith, less, first_position d) in
    let within : k < length xs = omega (arith, due_position e line h.due) in
    let is : xs ≡ take k xs ++ e ∷ drop (k + 1) xs =
    sym (take-append-drop k xs) ∙ ap (λ w. take k xs ++ w) (drop_more xs k e within ∙ ap (λ x. x ∷ drop (k + 1) xs) (stands_later d e less (due_position e line h.due))) in
    let all = h.first (cause_of d (cause_of e fen.Fields)) (token_of d (token_of e 0)) (move_of d (move_of e 0)) (take k xs) (drop (k + 1) xs) is in
    let here : get_or (take k xs) (order d - 1) d ≡ d =
    get_or-take k xs (order d - 1) d low ∙ stands d (cause_of e fen.Fields) (token_of e 0) (move_of e 0) (due_position d line due) in
    all (order d - 1) d (omega (arith, low, length-take k xs, within)) (subst (λ x. IsDue x line) (sym here) due)

refuses_from : (line : List ℕ) (e : Refusal) → IsDue e line → ((d : Refusal) → order d < order e → ¬ IsDue d line) → Refuses line e
refuses_from line e due none = record {
  due = due;
  first = λ c m n before after is.
      All-weaker (λ d. order d < order e) (λ d. ¬ IsDue d line) none before (are_before 1 before e after (subst (AreFrom 1) is (all_from c m n)));
}

-- ---- one position after the other

-- some refusal of this position in the order is due
abbrev pub IsDueAt : ℕ → List ℕ → Type 0
IsDueAt zero line = ⊥
IsDueAt (suc zero) line = IsDue refusal.Long line
IsDueAt (suc (suc zero)) line = IsDue refusal.Shape line
IsDueAt (suc (suc (suc zero))) line = IsDue refusal.Id line
IsDueAt (suc (suc (suc (suc zero)))) line = IsDue refusal.Result line
IsDueAt (suc (suc (suc (suc (suc zero))))) line = (e : FenError) × IsDue (refusal.Fen e) line
IsDueAt (suc (suc (suc (suc (suc (suc zero)))))) line = IsDue refusal.Start line
IsDueAt (suc (suc (suc (suc (suc (suc (suc zero))))))) line = (n : ℕ) × IsDue (refusal.Spelling n) line
IsDueAt (suc (suc (suc (suc (suc (suc (suc (suc zero)))))))) line = IsDue refusal.Plies line
IsDueAt (suc (suc (suc (suc (suc (suc (suc (suc (suc zero))))))))) line = (n : ℕ) × IsDue (refusal.Illegal n) line
IsDueAt (suc (suc (suc (suc (suc (suc (suc (suc (suc (suc n)))))))))) line = ⊥

pub due_at : (e : Refusal) (line : List ℕ) → IsDue e line → IsDueAt (order e) line
due_at refusal.Long line due = due
due_at refusal.Shape line due = due
due_at refusal.Id line due = due
due_at refusal.Result line due = due
due_at (refusal.Fen e) line due = (e, due)
due_at refusal.Start line due = due
due_at (refusal.Spelling n) line due = (n, due)
due_at refusal.Plies line due = due
due_at (refusal.Illegal n) line due = (n, due)
due_at (refusal.Conflict n) line due = due
due_at refusal.Full line due = due
due_at refusal.Memory line due = due

-- no refusal before the n-th position is due
pub record NoneBefore (n : ℕ) (line : List ℕ) : Type 0 where
  pub none : (k : ℕ) → k < n → ¬ IsDueAt k line

pub none_at_first : (line : List ℕ) → NoneBefore 1 line
none_at_first line = record { none = λ k lt due. let first : k ≡ 0 = omega arith in subst (λ n. IsDueAt n line) first due }

pub none_more : (n : ℕ) (line : List ℕ) → NoneBefore n line → ¬ IsDueAt n line → NoneBefore (suc n) line
none_more n line before not_due = record {
  none = λ k lt due.
      elim (cases_eq k n) [
        | inl same ↦ not_due (subst (λ m. IsDueAt m line) same due)
        | inr other ↦ before.none k (omega arith) due
      ];
}

pub first_due : (e : Refusal) (line : List ℕ) → NoneBefore (order e) line → IsDue e line → Refuses line e
first_due e line before due = refuses_from line e due (λ d lt other. before.none (order d) lt (due_at d line other))
