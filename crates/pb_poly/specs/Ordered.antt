-- Entries that are in order, with the key to which the next one is compared.
use Rattle.std.specs.Prelude.{◌≡◌, ℕ, List, [], ◌∷◌, All}
use Rattle.pb_poly.specs.declared.book.Entry.{Entry}
use Rattle.pb_poly.specs.Entry.{IsEntry}
use Rattle.pb_poly.specs.Book.{NeverFall, keys_of}

-- the last number, or the floor
abbrev pub last_from : ℕ → List ℕ → ℕ
last_from floor [] = floor
last_from floor (n ∷ ns) = last_from n ns

-- the last entry's key, or 0
abbrev pub last_key : List Entry → ℕ
last_key entries = last_from 0 (keys_of entries)

-- the keys never fall, each field is in its range, and this is the last key
pub record IsOrdered (entries : List Entry) (last : ℕ) : Type 0 where
  pub ordered : NeverFall entries
  pub bounds : All IsEntry entries
  pub last_is : last ≡ last_key entries
