-- An entry of a book: its ranges and its 16 bytes.
use Rattle.std.specs.Prelude.{ℕ, ◌^◌, ◌<◌, List, ◌++◌}
use Rattle.std.specs.Int.{w16, w32, w64, to_be_bytes}
use Rattle.pb_poly.specs.declared.book.Entry.{Entry}

-- each field is in the range of its bytes
pub record IsEntry (e : Entry) : Type 0 where
  pub key : e.key < 2 ^ 64
  pub code : e.code < 2 ^ 16
  pub weight : e.weight < 2 ^ 16
  pub learn : e.learn < 2 ^ 32

-- 8 bytes of key, 2 of code, 2 of weight and 4 of learn, each big-endian
abbrev pub entry_bytes : Entry → List ℕ
entry_bytes e = to_be_bytes w64 e.key ++ to_be_bytes w16 e.code ++ to_be_bytes w16 e.weight
    ++ to_be_bytes w32 e.learn
