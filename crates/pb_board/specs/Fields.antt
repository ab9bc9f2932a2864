-- Texts and their fields.
use Rattle.std.specs.Prelude.{ℕ, ◌==◌, List, [], slice_index_or}
use Rattle.std.specs.List.{slice_split}

abbrev pub tab : ℕ
tab = 9

abbrev pub space : ℕ
space = 32

-- the pieces of a text that is cut at every byte of this value: one more than there are such bytes
abbrev pub fields : ℕ → List ℕ → List (List ℕ)
fields separator text = slice_split (λ b. b == separator) text

-- one of them, by its number from 0
abbrev pub field : List (List ℕ) → ℕ → List ℕ
field texts i = slice_index_or texts i []
