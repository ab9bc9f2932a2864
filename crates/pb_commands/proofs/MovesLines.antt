-- The line of moves and weights, as it is put part by part.
use Rattle.std.proofs.Common.{◌≡◌, ◌∙◌, ℕ, ◌+◌, ◌<◌, ◌≤◌, List, [], ◌∷◌, ◌++◌, ap, append-nil, append_assoc, drop, get_or, length, map, sym}
use Rattle.std.specs.List.{flat_map, join_with_byte}
use Rattle.std.proofs.Math.ListN.{drop_of_length-le}
use Rattle.std.proofs.lemmas.List.{drop_more}
use Rattle.pb_board.specs.LineEnd.{with_end}
use Rattle.pb_moves.specs.Moved.{Moved}
use Rattle.pb_commands.specs.LookupShown.{moves_line}
use Rattle.pb_commands.specs.ProbeShown.{found_text}

-- a move and its weight, as they are put behind another
abbrev pub spaced : Moved × ℕ → List ℕ
spaced pair = (32 ∷ found_text pair) ++ []

-- those after the first
abbrev pub further : List (Moved × ℕ) → List ℕ
further pairs = flat_map spaced pairs

joined : (pair : Moved × ℕ) (pairs : List (Moved × ℕ)) → join_with_byte 32 (map found_text (pair ∷ pairs)) ≡ found_text pair ++ further pairs
joined pair [] = sym (append-nil (found_text pair))
joined pair (next ∷ pairs) =
    ap (λ xs. found_text pair ++ 32 ∷ xs) (joined next pairs)
    ∙ ap (λ xs. found_text pair ++ (xs ++ further pairs)) (sym (append-nil (32 ∷ found_text next)))

-- the rest of the line from a move on
pub further_from : (pairs : List (Moved × ℕ)) (i : ℕ) (d pair : Moved × ℕ) → pair ≡ get_or pairs i d → i < length pairs
    → with_end (further (drop i pairs)) ≡ spaced pair ++ with_end (further (drop (i + 1) pairs))
further_from pairs i d pair is below =
    ap (λ (ps : List (Moved × ℕ)). with_end (further ps)) (drop_more pairs i d below)
    ∙ append_assoc (spaced (get_or pairs i d)) (further (drop (i + 1) pairs)) (10 ∷ [])
    ∙ ap (λ (p : Moved × ℕ). spaced p ++ with_end (further (drop (i + 1) pairs))) (sym is)

-- after the last one
pub further_end : (pairs : List (Moved × ℕ)) (i : ℕ) → length pairs ≤ i → with_end (further (drop i pairs)) ≡ 10 ∷ []
further_end pairs i past = ap (λ (ps : List (Moved × ℕ)). with_end (further ps)) (drop_of_length-le pairs past)

-- the line that begins with a move
pub line_from_first : (all pairs : List (Moved × ℕ)) (pair : Moved × ℕ) → all ≡ pair ∷ pairs → (found_text pair ++ []) ++ with_end (further pairs) ≡ moves_line all
line_from_first all pairs pair are =
    ap (λ xs. xs ++ with_end (further pairs)) (append-nil (found_text pair)) ∙ sym (append_assoc (found_text pair) (further pairs) (10 ∷ []))
    ∙ ap with_end (sym (joined pair pairs)) ∙ ap moves_line (sym are)
