-- Books: entries whose keys never fall, and their bytes.
use Rattle.std.specs.Prelude.{◌≡◌, ℕ, ◌≤◌, List, [], ◌∷◌, All, map}
use Rattle.std.specs.List.{flat_map}
use Rattle.pb_poly.specs.declared.book.Entry.{Entry}
use Rattle.pb_poly.specs.Entry.{IsEntry, entry_bytes}

abbrev pub keys_of : List Entry → List ℕ
keys_of entries = map (λ e. e.key) entries

-- each number is at least the one before it, and the first at least the floor
abbrev pub NeverFallsFrom : ℕ → List ℕ → Type 0
NeverFallsFrom floor [] = Unit {0}
NeverFallsFrom floor (n ∷ ns) = (floor ≤ n) × NeverFallsFrom n ns

-- the keys never fall
abbrev pub NeverFall : List Entry → Type 0
NeverFall entries = NeverFallsFrom 0 (keys_of entries)

-- the bytes of entries, in order
abbrev pub book_bytes : List Entry → List ℕ
book_bytes entries = flat_map entry_bytes entries

-- these are the bytes of the entries, each field of which is in its range
pub record BookBytes (entries : List Entry) (bytes : List ℕ) : Type 0 where
  pub bounds : All IsEntry entries
  pub are : bytes ≡ book_bytes entries

-- and whose keys never fall
pub record IsBookFile (entries : List Entry) (bytes : List ℕ) : Type 0 where
  pub are : BookBytes entries bytes
  pub ordered : NeverFall entries
