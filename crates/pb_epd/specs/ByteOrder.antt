-- Byte order of texts.
use Rattle.std.specs.Prelude.{◌≡◌, ℕ, ◌<◌, ◌⊎◌, List, [], ◌∷◌}

-- the first byte that differs is lower, or there is none and the text is shorter
abbrev pub IsBytesBelow : List ℕ → List ℕ → Type 0
IsBytesBelow xs [] = ⊥
IsBytesBelow [] (y ∷ ys) = Unit {0}
IsBytesBelow (x ∷ xs) (y ∷ ys) = (x < y) ⊎ ((x ≡ y) × IsBytesBelow xs ys)
