-- The end of a line.
use Rattle.std.specs.Prelude.{ℕ, List, [], ◌∷◌, ◌++◌}

-- the line with its LF
abbrev pub with_end : List ℕ → List ℕ
with_end text = text ++ 10 ∷ []
