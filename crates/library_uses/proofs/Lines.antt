-- Sequences of legal moves, counted by their first moves.
use Rattle.std.proofs.Common.{◌≡◌, ℕ, ◌+◌, ◌<◌, ◌⊎◌, List, [], ◌∷◌, ◌++◌, length, get_or, take, Contains, refl, ap, sym, subst, ◌∙◌, arith, inl, inr}
use Rattle.std.proofs.lemmas.List.{get_or-take, get_or_default, length-take-le, take_more}
use Rattle.std.proofs.lemmas.List.Elements.{All-contains, Contains-append_left, Contains-push, Contains-push_cases}
use Rattle.pb_board.specs.Position.{Position}
use Rattle.pb_moves.specs.Legal.{Legal}
use Rattle.pb_moves.specs.Listing.{ListsLegal, order_of}
use Rattle.pb_moves.specs.Moved.{Moved}
use Rattle.pb_moves.specs.Played.{AreLegal}
use Rattle.pb_moves.specs.Successor.{after}
use Rattle.library_uses.specs.Perft.{Counts, IsPerft}
use Rattle.library_uses.proofs.Counting.{begun_by, both_kinds, only_such, same_such}

-- one of these moves, and then so many legal ones
abbrev pub Begins : Position → List Moved → ℕ → List Moved → Type 0
Begins s firsts rest moves = (m : Moved) × (more : List Moved) × Contains firsts m × (moves ≡ m ∷ more) × (length more ≡ rest) × AreLegal (after s m) more

no_moves : (moves : List Moved) → length moves ≡ 0 → moves ≡ []
no_moves [] e = refl
no_moves (m ∷ moves) e = absurd (omega (arith, e))

-- the sequence of no moves is the only one of its length
pub perft_none : (s : Position) → IsPerft s 0 1
perft_none s = only_such _ [] (refl, tt) (λ moves h. no_moves moves h.0)

-- one more first move
begun_push : (s : Position) (firsts : List Moved) (m : Moved) (rest n k : ℕ) → ¬ Contains firsts m → Counts (Begins s firsts rest) n → IsPerft (after s m) rest k
    → Counts (Begins s (firsts ++ m ∷ []) rest) (n + k)
begun_push s firsts m rest n k new before next =
    same_such (λ moves. Begins s firsts rest moves ⊎ Then moves) (Begins s (firsts ++ m ∷ []) rest) (n + k) (λ moves. (to moves, from moves))
    (both_kinds (Begins s firsts rest) Then n k before (begun_by m _ k next) (λ moves a b. new (subst (Contains firsts) (heads moves a b) a.2)))
  where
    Then : List Moved → Type 0
    Then moves = (more : List Moved) × (moves ≡ m ∷ more) × ((length more ≡ rest) × AreLegal (after s m) more)

    heads : (moves : List Moved) (a : Begins s firsts rest moves) → Then moves → a.0 ≡ m
    heads moves a b = let e : a.0 ∷ a.1 ≡ m ∷ b.0 = sym a.3 ∙ b.1 in cc

    to : (moves : List Moved) → Begins s firsts rest moves ⊎ Then moves → Begins s (firsts ++ m ∷ []) rest moves
    to moves (inl a) = (a.0, a.1, Contains-append_left firsts (m ∷ []) a.0 a.2, a.3, a.4, a.5)
    to moves (inr b) = (m, b.0, Contains-push firsts m, b.1, b.2.0, b.2.1)

    from : (moves : List Moved) → Begins s (firsts ++ m ∷ []) rest moves → Begins s firsts rest moves ⊎ Then moves
    from moves a = elim (Contains-push_cases firsts m a.0 a.2) [
      | inl old ↦ inl (a.0, a.1, old, a.3, a.4, a.5)
      | inr same ↦ inr (a.1, subst (λ q. moves ≡ q ∷ a.1) (sym same) a.3, (a.4, subst (λ q. AreLegal (after s q) a.1) (sym same) a.5))
    ]

-- the legal moves are listed once each
new_move : (s : Position) (moves : List Moved) (i : ℕ) (m : Moved) → ListsLegal s moves → i < length moves → ¬ Contains (take i moves) (get_or moves i m)
new_move s moves i m lists lt c =
    let x = get_or moves i m in
    let before : c.0 < i = omega (arith, c.1, length-take-le i moves (omega (arith, lt))) in
    let there : get_or moves c.0 x ≡ x = sym (get_or-take i moves c.0 x before) ∙ c.2 in
    let here : get_or moves i x ≡ x = get_or_default moves i x m lt in
    omega (arith, lists.ordered c.0 i x before lt, ap order_of there, ap order_of here)

-- the next of the legal moves
pub begun_more : (s : Position) (moves : List Moved) (i : ℕ) (m : Moved) (rest n k : ℕ) → ListsLegal s moves → i < length moves → Counts (Begins s (take i moves) rest) n
    → IsPerft (after s (get_or moves i m)) rest k → Counts (Begins s (take (i + 1) moves) rest) (n + k)
begun_more s moves i m rest n k lists lt before next =
    subst (λ firsts. Counts (Begins s firsts rest) (n + k)) (sym (take_more moves i m lt))
    (begun_push s (take i moves) (get_or moves i m) rest n k (new_move s moves i m lists lt) before next)

-- all of the legal moves
pub begun_all : (s : Position) (moves : List Moved) (rest n : ℕ) → ListsLegal s moves → Counts (Begins s moves rest) n → IsPerft s (rest + 1) n
begun_all s moves rest n lists = same_such (Begins s moves rest) (λ line. (length line ≡ rest + 1) × AreLegal s line) n (λ line. (to line, from line))
  where
    to : (line : List Moved) → Begins s moves rest line → (length line ≡ rest + 1) × AreLegal s line
    to line a = subst (λ xs. (length xs ≡ rest + 1) × AreLegal s xs) (sym a.3) (omega (arith, a.4), (All-contains (Legal s) moves a.0 lists.legal a.2, a.5))

    from : (line : List Moved) → (length line ≡ rest + 1) × AreLegal s line → Begins s moves rest line
    from [] h = absurd (omega (arith, h.0))
    from (m ∷ more) h = (m, more, lists.every m h.1.0, refl, omega (arith, h.0), h.1.1)
