-- Rows at their indices, and the greatest points under a key.
use Rattle.std.proofs.Common.{◌≡◌, ℕ, ◌<◌, ◌↔◌, List, length, All, Contains, subst, ◌∙◌, arith}
use Rattle.std.proofs.lemmas.List.{get_or_default}
use Rattle.std.proofs.lemmas.List.Elements.{Contains-get_or}
use Rattle.pb_points.specs.declared.row.Row.{Row}
use Rattle.pb_points.specs.Rows.{IsTop, row_at}

abbrev pub row_0 : Row
row_0 = record { key = 0; code = 0; points = 0; times = 0 }

-- a row of the list has an index
pub index_of_row : (rows : List Row) (r : Row) → Contains rows r → (i : ℕ) × (i < length rows) × (row_at rows i ≡ r)
index_of_row rows r h = (h.0, h.1, get_or_default rows h.0 row_0 r h.1 ∙ h.2)

pub Contains-row_at : (rows : List Row) (i : ℕ) → i < length rows → Contains rows (row_at rows i)
Contains-row_at rows i lt = Contains-get_or rows i row_0 lt

-- what holds of each row holds of those at indices
pub All-Contains : (P : Row → Type 0) (rows : List Row) → All P rows → (r : Row) → Contains rows r → P r
All-Contains P rows all r h = subst P h.2 (all h.0 r h.1)

pub IsTop-unique : (rows : List Row) (k M N : ℕ) → IsTop rows k M → IsTop rows k N → M ≡ N
IsTop-unique rows k M N g h =
    let a = g.met in
    let b = h.met in
    omega (arith, g.above b.0 b.1 b.2, h.above a.0 a.1 a.2, a.3, b.3)

-- lists with the same rows of a key have one greatest number of points under it
pub IsTop-agree : (rows others : List Row) (k M : ℕ) → ((r : Row) → r.key ≡ k → Contains rows r ↔ Contains others r) → IsTop rows k M → IsTop others k M
IsTop-agree rows others k M same top = record {
  above = λ r h e. top.above r ((same r e).1 h) e;
  met = (top.met.0, (same top.met.0 top.met.2).0 top.met.1, top.met.2, top.met.3);
}
