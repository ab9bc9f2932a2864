-- A text that is cut at every separator.
use Rattle.std.proofs.Common.{◌≡◌, ℕ, ◌≤◌, eqb, List, [], ◌∷◌, ◌++◌, length, length-append, sym, ap, ◌∙◌, arith}
use Rattle.std.specs.List.{slice_split, join_with_byte}
use Rattle.std.proofs.lemmas.List.Splits.{join_with_byte-slice_split, length-slice_split}

-- the fourth piece of a text isn't longer than the text
pub fourth_short : (separator : ℕ) (text a b c d : List ℕ) → slice_split (λ x. eqb x separator) text ≡ a ∷ b ∷ c ∷ d ∷ [] → length d ≤ length text
fourth_short s text a b c d cut =
    let whole : join_with_byte s (a ∷ b ∷ c ∷ d ∷ []) ≡ text = sym (ap (join_with_byte s) cut) ∙ join_with_byte-slice_split s text in
    omega (arith, ap length whole, length-append a (s ∷ (b ++ s ∷ (c ++ s ∷ d))), length-append b (s ∷ (c ++ s ∷ d)), length-append c (s ∷ d))

-- more than four pieces
pub fifth : (separator : ℕ) (s0 s1 s2 s3 : List (List ℕ)) (a b c d t : List ℕ) → s0 ≡ a ∷ s1 → s1 ≡ b ∷ s2 → s2 ≡ c ∷ s3 → s3 ≡ d ∷ slice_split (λ x. eqb x separator) t → length s0 ≡ 4 → ⊥
fifth s s0 s1 s2 s3 a b c d t h1 h2 h3 h4 four =
    omega (arith, length-slice_split (λ x. eqb x s) t, four, ap length h1, ap length h2, ap length h3, ap length h4)
