-- Boards that differ on named squares: what holds on each square, and the board that is made by
-- putting.
use Rattle.std.proofs.Common.{◌≡◌, ◌≢◌, ℕ, ◌<◌, ◌≤◌, ◌⊎◌, arith, inl, inr, sym, subst, ◌∙◌, Option, Some, None, List, [], ◌∷◌, ◌++◌, length, length-set, get_or-set_other, get_or-set_same, get_or, refl, suc}
use Rattle.std.specs.Prelude.{All}
use Rattle.std.proofs.lemmas.Bool.{cases_lt, cases_order}
use Rattle.std.proofs.lemmas.List.{get_or_past}
use Rattle.std.proofs.lemmas.List.Elements.{All-nil, All-cons, All-head, All-push, All-tail}
use Rattle.pb_board.specs.declared.piece.Piece.{Piece}
use Rattle.pb_board.specs.Board.{Board, Place, at, Holds, IsEmpty}
use Rattle.pb_moves.specs.Successor.{Differs}
use Rattle.pb_moves.proofs.MovedPiece.{put}

pub same_or_not : (a b : ℕ) → (a ≡ b) ⊎ (a ≢ b)
same_or_not a b = elim (cases_order a b) [ inl e ↦ inl e | inr o ↦ inr (λ same. elim o [ inl l ↦ omega arith | inr g ↦ omega arith ]) ]

-- lists of one length with the same element at each index are equal
pub same_lists : {X : Type 0} (xs ys : List X) (d : X) → length xs ≡ length ys → ((q : ℕ) → get_or xs q d ≡ get_or ys q d) → xs ≡ ys
same_lists [] [] d n e = refl
same_lists [] (y ∷ ys) d n e = absurd (omega arith)
same_lists (x ∷ xs) [] d n e = absurd (omega arith)
same_lists (x ∷ xs) (y ∷ ys) d n e =
    let head : x ≡ y = e 0 in
    let tail = same_lists xs ys d (omega arith) (λ q. e (suc q)) in
    cc

pub same_boards : (b c : Board) → length b ≡ 64 → length c ≡ 64 → ((q : ℕ) → at b q ≡ at c q) → b ≡ c
same_boards b c m n e = same_lists b c None (m ∙ sym n) e

-- what holds a piece is on the board
pub holds_on_board : (board : Board) (q : ℕ) (p : Piece) → length board ≡ 64 → Holds board q p → q < 64
holds_on_board board q p full here =
    elim (cases_lt q 64) [
      | inl l ↦ l
      | inr g ↦ (let past : length board ≤ q = omega arith in let none : get_or board q None ≡ None = get_or_past board q None past in absurd (cc))
    ]

-- each of a list, where the list begins with two
pub All-two : {X : Type 0} (P : X → Type 0) (a b : X) (rest : List X) → P a → P b → All P rest → All P (a ∷ b ∷ rest)
All-two P a b rest x y z = All-cons P a (b ∷ rest) x (All-cons P b rest y z)

-- a square is one of the named squares, or none of them
each_named : (new : Board) (P : ℕ → Place → Type 0) (now : List (ℕ × Place)) → All (λ c. at new c.0 ≡ c.1) now → All (λ c. P c.0 c.1) now
    → (q : ℕ) → (All (λ c. q ≢ c.0) now → P q (at new q)) → P q (at new q)
each_named new P [] is has q other = let O : ℕ × Place → Type 0 = λ c. q ≢ c.0 in other (All-nil O)
each_named new P (c ∷ now) is has q other =
    let I : ℕ × Place → Type 0 = λ c. at new c.0 ≡ c.1 in
    let H : ℕ × Place → Type 0 = λ c. P c.0 c.1 in
    let O : ℕ × Place → Type 0 = λ c. q ≢ c.0 in
    elim (same_or_not q c.0) [
      | inl e ↦
          (let here : P c.0 (at new c.0) = subst (P c.0) (sym (All-head I c now is)) (All-head H c now has) in
          let F : ℕ → Type 0 = λ r. P r (at new r) in
          subst F (sym e) here)
      | inr ne ↦ each_named new P now (All-tail I c now is) (All-tail H c now has) q (λ rest. other (All-cons O c now ne rest))
    ]

-- what holds of each named place, and of each other as it was, holds on each square
pub each_place : (old new : Board) (now : List (ℕ × Place)) (P : ℕ → Place → Type 0) → Differs old new now → All (λ c. P c.0 c.1) now
    → ((q : ℕ) → All (λ c. q ≢ c.0) now → P q (at old q)) → (q : ℕ) → P q (at new q)
each_place old new now P moved named others q =
    each_named new P now moved.named named q (λ off. subst (P q) (sym (moved.others q off)) (others q off))

-- boards that differ in the same way from one are equal
pub differs_one : (old b c : Board) (now : List (ℕ × Place)) → Differs old b now → Differs old c now → b ≡ c
differs_one old b c now x y =
    same_boards b c x.squares y.squares (each_place old b now (λ q p. p ≡ at c q) x (λ k d lt. sym (y.named k d lt)) (λ q off. sym (y.others q off)))

-- a piece was carried: the square that it left, the one that it reached, and the squares besides
pub left : (old new : Board) (from to : ℕ) (p : Piece) (besides : List (ℕ × Place)) → Differs old new ((from, None) ∷ (to, Some p) ∷ besides) → IsEmpty new from
left old new from to p besides moved = moved.named 0 (0, None) (omega arith)

pub arrived : (old new : Board) (from to : ℕ) (p : Piece) (besides : List (ℕ × Place)) → Differs old new ((from, None) ∷ (to, Some p) ∷ besides) → Holds new to p
arrived old new from to p besides moved = moved.named 1 (0, None) (omega arith)

-- a square that isn't the one, and one that is neither of the two
pub off_one : (q : ℕ) (a : ℕ × Place) → q ≢ a.0 → All (λ c. q ≢ c.0) (a ∷ [])
off_one q a x = let O : ℕ × Place → Type 0 = λ c. q ≢ c.0 in All-cons O a [] x (All-nil O)

pub off_two : (q : ℕ) (a b : ℕ × Place) → q ≢ a.0 → q ≢ b.0 → All (λ c. q ≢ c.0) (a ∷ b ∷ [])
off_two q a b x y = let O : ℕ × Place → Type 0 = λ c. q ≢ c.0 in All-two O a b [] x y (All-nil O)

-- what stands on the squares of a board after one is filled
pub at_put_other : (b : Board) (q r : ℕ) (x : Option Piece) → r ≢ q → at (put b q x) r ≡ at b r
at_put_other b q r x ne = get_or-set_other b q r x None ne

pub at_put_same : (b : Board) (q : ℕ) (x : Option Piece) → length b ≡ 64 → q < 64 → at (put b q x) q ≡ x
at_put_same b q x full lt = get_or-set_same b q x None (omega arith)

pub length_put : (b : Board) (q : ℕ) (x : Option Piece) → length b ≡ 64 → length (put b q x) ≡ 64
length_put b q x full = length-set b q x ∙ full

all_before : {X : Type 0} (P : X → Type 0) (xs : List X) (x : X) → All P (xs ++ x ∷ []) → All P xs
all_before P [] x h = All-nil P
all_before P (y ∷ xs) x h = All-cons P y xs (All-head P y (xs ++ x ∷ []) h) (all_before P xs x (All-tail P y (xs ++ x ∷ []) h))

all_last : {X : Type 0} (P : X → Type 0) (xs : List X) (x : X) → All P (xs ++ x ∷ []) → P x
all_last P [] x h = All-head P x [] h
all_last P (y ∷ xs) x h = all_last P xs x (All-tail P y (xs ++ x ∷ []) h)

-- one more square is filled, which wasn't named before
pub differs_put : (old new : Board) (now : List (ℕ × Place)) (q : ℕ) (x : Place) → Differs old new now → q < 64 → All (λ c. q ≢ c.0) now
    → Differs old (put new q x) (now ++ (q, x) ∷ [])
differs_put old new now q x moved on off =
    let c : ℕ × Place = (q, x) in
    let N : ℕ × Place → Type 0 = λ c. at (put new q x) c.0 ≡ c.1 in
    record {
      squares = length_put new q x moved.squares;
      named = All-push N now c (λ k d lt. at_put_other new q (get_or now k d).0 x (λ same. off k d lt (sym same)) ∙ moved.named k d lt)
          (at_put_same new q x moved.squares on);
      others = λ r none.
          (let O : ℕ × Place → Type 0 = λ c. r ≢ c.0 in
          at_put_other new q r x (all_last O now c none) ∙ moved.others r (all_before O now c none));
    }

-- nothing has changed yet
pub differs_none : (old : Board) → length old ≡ 64 → Differs old old []
differs_none old full = let N : ℕ × Place → Type 0 = λ c. at old c.0 ≡ c.1 in record { squares = full; named = All-nil N; others = λ q off. refl }

-- the board on which a piece was carried
abbrev pub moved_board : Board → ℕ → ℕ → Piece → Board
moved_board old from to p = put (put old from None) to (Some p)

pub lifted_put : (old : Board) (from : ℕ) → length old ≡ 64 → from < 64 → Differs old (put old from None) ((from, None) ∷ [])
lifted_put old from full on = let O : ℕ × Place → Type 0 = λ c. from ≢ c.0 in differs_put old old [] from None (differs_none old full) on (All-nil O)

pub carried_put : (old : Board) (from to : ℕ) (p : Piece) → length old ≡ 64 → from < 64 → to < 64 → from ≢ to
    → Differs old (moved_board old from to p) ((from, None) ∷ (to, Some p) ∷ [])
carried_put old from to p full on_from on_to ne =
    let a : ℕ × Place = (from, None) in
    let O : ℕ × Place → Type 0 = λ c. to ≢ c.0 in
    differs_put old (put old from None) (a ∷ []) to (Some p) (lifted_put old from full on_from) on_to (All-cons O a [] (λ same. ne (sym same)) (All-nil O))

pub carried_past_put : (old : Board) (from to gone : ℕ) (p : Piece) → length old ≡ 64 → from < 64 → to < 64 → gone < 64 → from ≢ to → gone ≢ from → gone ≢ to
    → Differs old (put (moved_board old from to p) gone None) ((from, None) ∷ (to, Some p) ∷ (gone, None) ∷ [])
carried_past_put old from to gone p full on_from on_to on_gone ne apart_from apart_to =
    let a : ℕ × Place = (from, None) in
    let b : ℕ × Place = (to, Some p) in
    differs_put old (moved_board old from to p) (a ∷ b ∷ []) gone None (carried_put old from to p full on_from on_to ne) on_gone (off_two gone a b apart_from apart_to)
