-- What a book holds for a setup.
use Rattle.std.specs.Prelude.{◌≡◌, ℕ, ◌⊎◌, List, [], ◌∷◌}
use Rattle.pb_board.specs.Position.{Position}
use Rattle.pb_moves.specs.Moved.{Moved}
use Rattle.pb_poly.specs.declared.book.Entry.{Entry}
use Rattle.pb_poly.specs.Code.{HasCode}
use Rattle.pb_poly.specs.Key.{key}

-- the entry stands under the setup's key, and its code is that of this legal move
pub record IsFor (randoms : List ℕ) (s : Position) (e : Entry) (m : Moved) : Type 0 where
  pub key_is : e.key ≡ key randoms s
  pub has_code : HasCode s m e.code

-- the moves and weights of the entries that are for the setup, in the book's order
abbrev pub Found : List Entry → List ℕ → Position → List (Moved × ℕ) → Type 0
Found [] randoms s pairs = pairs ≡ []
Found (e ∷ entries) randoms s pairs =
    ((m : Moved) × (rest : List (Moved × ℕ)) × IsFor randoms s e m × (pairs ≡ (m, e.weight) ∷ rest)
    × Found entries randoms s rest)
    ⊎ (((m : Moved) → ¬ IsFor randoms s e m) × Found entries randoms s pairs)

-- ---- laws
