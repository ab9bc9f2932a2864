-- The book of one game, which is Fool's mate, by numbers that are made up.
use Rattle.std.specs.Prelude.{ℕ, ◌*◌, List, [], ◌∷◌, map}
use Rattle.std.specs.List.{range_with_len}
use Rattle.pb_poly.specs.declared.book.Entry.{Entry}
use Rattle.pb_accepted.specs.Rules.{Basis, all_plies}

-- the squares of the numbers from 0 to 780 stand for the random ones
abbrev pub worked_basis : Basis
worked_basis = record { randoms = map (λ n. n * n) (range_with_len 0 781); rules = all_plies }

-- Black's two moves, d8h4 and e7e5; White's have no points
abbrev pub worked_book : List Entry
worked_book = record { key = 56540; code = 3807; weight = 2; learn = 0 }
    ∷ record { key = 58908; code = 3364; weight = 2; learn = 0 } ∷ []

abbrev pub worked_bytes : List ℕ
worked_bytes =
    0 ∷ 0 ∷ 0 ∷ 0 ∷ 0 ∷ 0 ∷ 220 ∷ 220 ∷ 14 ∷ 223 ∷ 0 ∷ 2 ∷ 0 ∷ 0 ∷ 0 ∷ 0
    ∷ 0 ∷ 0 ∷ 0 ∷ 0 ∷ 0 ∷ 0 ∷ 230 ∷ 28 ∷ 13 ∷ 36 ∷ 0 ∷ 2 ∷ 0 ∷ 0 ∷ 0 ∷ 0 ∷ []
