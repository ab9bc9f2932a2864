-- Numbers that count only if something is so, as those that stand for castling rights.
use Rattle.std.specs.Prelude.{ℕ, Bool, List, [], ◌∷◌, ◌++◌, if◌then◌else◌}
use Rattle.pb_board.specs.declared.setup.Rights.{Rights}

-- the number, if so
abbrev pub only_if : Bool → ℕ → List ℕ
only_if flag n = if flag then n ∷ [] else []

-- of four numbers those whose castling right is there: White's short and long one, then Black's
abbrev pub of_rights : Rights → ℕ → ℕ → ℕ → ℕ → List ℕ
of_rights r a b c d = only_if r.white_short a ++ (only_if r.white_long b
    ++ (only_if r.black_short c ++ only_if r.black_long d))
