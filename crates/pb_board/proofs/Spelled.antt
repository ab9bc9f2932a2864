-- The texts of ranks, boards and castling rights are those that the relations tell.
use Rattle.std.proofs.Common.{◌≡◌, ◌↔◌, ◌∙◌, ℕ, zero, suc, ◌+◌, ◌*◌, ◌≤◌, false, ◌==◌, eqb, List, [], ◌∷◌, ◌++◌, length, drop, replicate, Some, None, refl, sym, ap, subst, inl, inr, arith}
use Rattle.std.specs.Prelude.{codes, if◌then◌else◌}
use Rattle.std.proofs.lemmas.List.{length-take}
use Rattle.pb_board.specs.declared.setup.Rights.{Rights}
use Rattle.pb_board.specs.Board.{Place}
use Rattle.pb_board.specs.Ranks.{BeginsOccupied, RankText}
use Rattle.pb_board.specs.Rights.{of_rights}
use Rattle.pb_board.specs.Text.{castling_text, empty_squares, piece_letter, placement_text, rank_text}
use Rattle.pb_board.proofs.Placements.{PlacementText, rank_of}

-- ---- ranks

push_blank : (n : ℕ) (s : List Place) → replicate (n + 1) None ++ s ≡ replicate n None ++ None ∷ s
push_blank zero s = refl
push_blank (suc n) s = let e : suc n + 1 ≡ suc (n + 1) = omega arith in rw e (ap (λ (w : List Place). None ∷ w) (push_blank n s))

pub run_is : (n : ℕ) → empty_squares (suc n) ≡ (48 + suc n) ∷ []
run_is n = let e : eqb (suc n) 0 ≡ false = grind arith in rw e refl

pub rank_is : (n : ℕ) (squares : List Place) → n + length squares ≤ 8 → RankText (replicate n None ++ squares) (rank_text n squares)
rank_is zero [] few = refl
rank_is (suc n) [] few = rw (run_is n) ([], inr (suc n, omega arith, omega (arith, few), refl, refl, tt), refl)
rank_is n (None ∷ squares) few =
    subst (λ (s : List Place). RankText s (rank_text (n + 1) squares)) (push_blank n squares) (rank_is (n + 1) squares (omega (arith, few)))
rank_is zero (Some p ∷ squares) few = (squares, inl (p, refl, refl), rank_is 0 squares (omega (arith, few)))
rank_is (suc n) (Some p ∷ squares) few =
    rw (run_is n) (Some p ∷ squares, inr (suc n, omega arith, omega (arith, few), refl, refl, tt), (squares, inl (p, refl, refl), rank_is 0 squares (omega (arith, few))))

-- the text of squares that begin with so many empty ones and no more
empty_first : (n : ℕ) (rest : List Place) → BeginsOccupied rest → rank_text (suc n) rest ≡ (48 + suc n) ∷ rank_text 0 rest
empty_first n [] begins = run_is n
empty_first n (Some p ∷ rest) begins = rw (run_is n) refl
empty_first n (None ∷ rest) begins = absurd begins

all_empty : (k n : ℕ) (rest : List Place) → rank_text k (replicate n None ++ rest) ≡ rank_text (k + n) rest
all_empty k zero rest = let e : k + 0 ≡ k = omega arith in rw e refl
all_empty k (suc n) rest = let e : k + suc n ≡ k + 1 + n = omega arith in rw e (all_empty (k + 1) n rest)

rank_was : (squares : List Place) (t : List ℕ) → RankText squares t → t ≡ rank_text 0 squares
rank_was squares [] h = rw h refl
rank_was squares (c ∷ t) (rest, inl (p, letter, is), left) = rw (is, letter) (ap (λ (w : List ℕ). piece_letter p ∷ w) (rank_was rest t left))
rank_was squares (c ∷ t) (rest, inr (zero, some, few, digit, is, begins), left) = absurd (omega (arith, some))
rank_was squares (c ∷ t) (rest, inr (suc n, some, few, digit, is, begins), left) =
    let none : 0 + suc n ≡ suc n = omega arith in
    let blank : rank_text 0 (replicate (suc n) None ++ rest) ≡ rank_text (suc n) rest = all_empty 0 (suc n) rest ∙ ap (λ m. rank_text m rest) none in
    rw (is, digit) (ap (λ (w : List ℕ). (48 + suc n) ∷ w) (rank_was rest t left) ∙ sym (blank ∙ empty_first n rest begins))

pub rank_text_is : (squares : List Place) (t : List ℕ) → length squares ≤ 8 → RankText squares t ↔ t ≡ rank_text 0 squares
rank_text_is squares t few = (rank_was squares t, λ e. subst (RankText squares) (sym e) (rank_is 0 squares (omega (arith, few))))

rank_at : (board : List Place) (r : ℕ) → RankText (rank_of board r) (rank_text 0 (rank_of board r))
rank_at board r = rank_is 0 (rank_of board r) (omega (arith, length-take 8 (drop (8 * r) board)))

-- ---- boards

pub placement_is : (board : List Place) → PlacementText board (placement_text board)
placement_is board = (
  rank_text 0 (rank_of board 7) ∷ rank_text 0 (rank_of board 6) ∷ rank_text 0 (rank_of board 5) ∷ rank_text 0 (rank_of board 4)
      ∷ rank_text 0 (rank_of board 3) ∷ rank_text 0 (rank_of board 2) ∷ rank_text 0 (rank_of board 1) ∷ rank_text 0 (rank_of board 0) ∷ [],
  (rank_at board 7, (rank_at board 6, (rank_at board 5, (rank_at board 4, (rank_at board 3, (rank_at board 2, (rank_at board 1, (rank_at board 0, tt)))))))),
  refl,
)

-- ---- castling rights

-- the letters of the flags that are set, in the order K Q k q
abbrev pub flag_letters : Rights → List ℕ
flag_letters r = of_rights r 75 81 107 113

-- a - in the place of an empty text
abbrev pub or_dash : List ℕ → List ℕ
or_dash [] = 45 ∷ []
or_dash (c ∷ text) = c ∷ text

dash_is : (text : List ℕ) → or_dash text ≡ (if length text == 0 then codes "-" else text)
dash_is [] = refl
dash_is (c ∷ text) = let e : eqb (suc (length text)) 0 ≡ false = grind arith in rw e refl

pub castling_is : (r : Rights) → or_dash (flag_letters r) ≡ castling_text r
castling_is r = dash_is (flag_letters r)
