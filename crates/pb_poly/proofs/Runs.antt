-- The entries of one key stand together, since keys never fall.
use Rattle.std.proofs.Common.{◌≡◌, ℕ, zero, suc, ◌<◌, ◌≤◌, Bool, true, false, ◌==◌, inl, inr, List, [], ◌∷◌, length, take, drop, get_or, refl, sym, ap, ◌∙◌, arith, ltb, ltb-true, ltb-false}
use Rattle.std.specs.List.{filter, take_while}
use Rattle.std.specs.List.Sorted.{IsNonDecreasingBy, IsPartitionPoint}
use Rattle.std.proofs.lemmas.Bool.Decides.{eqb_tells}
use Rattle.std.proofs.lemmas.List.Folds.{length-prefix_len}
use Rattle.std.proofs.lemmas.List.Sums.{take_while-cons}
use Rattle.pb_poly.specs.declared.book.Entry.{Entry}
use Rattle.pb_poly.specs.Book.{NeverFall, NeverFallsFrom, keys_of}

-- the entry stands under this key
abbrev has_key : ℕ → Entry → Bool
has_key key e = e.key == key

above_floor : (floor : ℕ) (entries : List Entry) (i : ℕ) (d : Entry) → NeverFallsFrom floor (keys_of entries) → i < length entries → floor ≤ (get_or entries i d).key
above_floor floor [] i d rise within = absurd (omega arith)
above_floor floor (e ∷ entries) zero d rise within = rise.0
above_floor floor (e ∷ entries) (suc i) d rise within =
    let first = rise.0 in
    let more = above_floor e.key entries i d rise.1 (omega arith) in
    omega (arith, first, more)

pub keys_rise : (floor : ℕ) (entries : List Entry) → NeverFallsFrom floor (keys_of entries) → IsNonDecreasingBy (λ e. e.key) entries
keys_rise floor [] rise i j d before within = absurd (omega arith)
keys_rise floor (e ∷ entries) rise zero zero d before within = omega arith
keys_rise floor (e ∷ entries) rise zero (suc j) d before within = above_floor e.key entries j d rise.1 (omega arith)
keys_rise floor (e ∷ entries) rise (suc i) zero d before within = absurd (omega arith)
keys_rise floor (e ∷ entries) rise (suc i) (suc j) d before within = keys_rise e.key entries rise.1 i j d (omega arith) (omega arith)

-- no entry stands under a key below the floor
none_below : (floor key : ℕ) (entries : List Entry) → NeverFallsFrom floor (keys_of entries) → key < floor → filter (has_key key) entries ≡ []
none_below floor key [] rise low = refl
none_below floor key (e ∷ entries) rise low =
    let first = rise.0 in
    let more = none_below e.key key entries rise.1 (omega arith) in
    elim (eqb_tells e.key key) [
      | inl same ↦ absurd (let is = same.1 in omega arith)
      | inr other ↦ rw other.0 more
    ]

-- from a key on, the entries of that key come first
from_key : (key floor : ℕ) (entries : List Entry) → NeverFallsFrom floor (keys_of entries) → key ≤ floor → filter (has_key key) entries ≡ take_while (has_key key) entries
from_key key floor [] rise low = refl
from_key key floor (e ∷ entries) rise low =
    let first = rise.0 in
    elim (eqb_tells e.key key) [
      | inl same ↦
          let more = from_key key e.key entries rise.1 (omega arith) in
          rw (take_while-cons (has_key key) e entries, same.0) (ap (λ (es : List Entry). e ∷ es) more)
      | inr other ↦
          let ne = other.1 in
          rw (take_while-cons (has_key key) e entries, other.0) (none_below e.key key entries rise.1 (omega arith))
    ]

-- the entries before the first one of the key don't count
from_first : (key : ℕ) (entries : List Entry) (first : ℕ) → ((k : ℕ) (d : Entry) → 0 ≤ k → k < first → ltb (get_or entries k d).key key ≡ true) → filter (has_key key) entries ≡ filter (has_key key) (drop first entries)
from_first key entries zero low = refl
from_first key [] (suc first) low = refl
from_first key (e ∷ entries) (suc first) low =
    let below = ltb-true e.key key (low 0 e (omega arith) (omega arith)) in
    elim (eqb_tells e.key key) [
      | inl same ↦ absurd (let is = same.1 in omega arith)
      | inr other ↦ rw other.0 (from_first key entries first (λ k d a b. low (suc k) d (omega arith) (omega arith)))
    ]

drop_rises : (floor key : ℕ) (entries : List Entry) (first : ℕ) → NeverFallsFrom floor (keys_of entries) → ((k : ℕ) (d : Entry) → first ≤ k → k < length entries → ltb (get_or entries k d).key key ≡ false) → NeverFallsFrom key (keys_of (drop first entries))
drop_rises floor key [] zero rise high = tt
drop_rises floor key [] (suc first) rise high = tt
drop_rises floor key (e ∷ entries) zero rise high = (ltb-false e.key key (high 0 e (omega arith) (omega arith)), rise.1)
drop_rises floor key (e ∷ entries) (suc first) rise high = drop_rises e.key key entries first rise.1 (λ k d a b. high (suc k) d (omega arith) (omega arith))

-- the entries that pass from the first one of the key on are all that stand under it
pub run : (key : ℕ) (entries rest : List Entry) (first count : ℕ) → NeverFall entries → rest ≡ drop first entries
    → IsPartitionPoint (λ (e : Entry). ltb e.key key ≡ true) (λ (e : Entry). ltb e.key key ≡ false) entries first
    → count ≡ length (take_while (has_key key) rest) → take count rest ≡ filter (has_key key) entries
run key entries rest first count rise is point long =
    ap (λ n. take n rest) (long ∙ length-prefix_len (has_key key) rest) ∙ ap (take_while (has_key key)) is
    ∙ sym (from_first key entries first point.0 ∙ from_key key key (drop first entries) (drop_rises 0 key entries first rise point.1) (omega arith))
