-- What narrow and wide rows hold together, and how it changes.
use Rattle.std.proofs.Common.{◌≡◌, ℕ, ◌+◌, ◌<◌, ◌≤◌, ◌^◌, ◌⊎◌, Bool, true, false, true≢false, cond, if◌then◌else◌, Option, Some, None, IsSome, is_some, List, [], ◌∷◌, ◌++◌, length, get_or, set, refl, sym, ap, ◌∙◌, inl, inr, arith, subst, append_assoc}
use Rattle.std.specs.Prelude.{nat_lt, sum_by}
use Rattle.std.proofs.Math.ListN.{length-append, length-set}
use Rattle.std.proofs.lemmas.Bool.{cases_lt}
use Rattle.std.proofs.lemmas.Bool.Decides.{nat_tests}
use Rattle.std.proofs.lemmas.List.{get_or_append_left, get_or_default, get_or-append-add, set-append_left}
use Rattle.std.proofs.lemmas.List.Sums.{sum_by_push, sum_by-append}
use Rattle.std.proofs.lemmas.Map.Keys.{apart_from_distinct, IsDistinct-from_apart}
use Rattle.pb_points.specs.declared.row.Row.{Row}
use Rattle.pb_points.specs.Bag.{HoldsSame, SumsFit, bag_content, count_of, gain, points_of, times_of}
use Rattle.pb_points.specs.Blocks.{AddsThere}
use Rattle.pb_points.specs.Rows.{is_row, same_pair}
use Rattle.pb_points.specs.Tally.{Held, AddsPly, HasRoomFor, MakesRow, held, is_pair, more}
use Rattle.pb_points.specs.NarrowTally.{AddsWide, AreNarrowed, AreSound, Spills}
use Rattle.pb_points.proofs.BagRows.{adds_set, count_set, counted, fit_pushed, fit_same, held_added, held_points, held_sums, held_times, makes_pushed, new_row, of_sums, one, row_at, with_more}
use Rattle.pb_points.proofs.BlockRows.{set_last}
use Rattle.pb_points.proofs.ListRows.{IsDistinct-more, same_keys}
use Rattle.pb_points.proofs.Pairs.{is_pair_same, same_equiv}
use Rattle.pb_points.proofs.DistinctRows.{wide_few}

-- ---- a ply more

pub adds_there : (old new : List Row) (k c n : ℕ) → AddsThere old new k c n → AddsPly (bag_content old) (bag_content new) k c n
adds_there old new k c n h = subst (λ l. AddsPly (bag_content old) (bag_content l) k c n) (sym h.added) (adds_set old k c h.index n h.there.0 h.there.1)

pub all_narrow : (rows new wide : List Row) (k c n : ℕ) → AddsThere rows new k c n → AddsThere (rows ++ wide) (new ++ wide) k c n
all_narrow rows new wide k c n h =
    let here = get_or_append_left rows wide (new_row 0 0) h.index h.there.0 in
    record {
      index = h.index;
      there = (omega (arith, h.there.0, length-append rows wide), ap (λ r. is_row k c r) here ∙ h.there.1);
      added = ap (λ l. l ++ wide) h.added ∙ sym (set-append_left rows wide h.index (with_more n 1 (row_at rows h.index)) h.there.0) ∙ ap (λ r. set (rows ++ wide) h.index (with_more n 1 r)) (sym here);
    }

all_wide : (rows wide new : List Row) (k c n : ℕ) → AddsThere wide new k c n → AddsThere (rows ++ wide) (rows ++ new) k c n
all_wide rows wide new k c n h =
    let here = get_or-append-add rows wide h.index (new_row 0 0) in
    record {
      index = length rows + h.index;
      there = (omega (arith, h.there.0, length-append rows wide), ap (λ r. is_row k c r) here ∙ h.there.1);
      added = ap (λ l. rows ++ l) h.added ∙ set_last rows wide h.index (with_more n 1 (row_at wide h.index)) ∙ ap (λ r. set (rows ++ wide) (length rows + h.index) (with_more n 1 r)) (sym here);
    }

abbrev ply_row : ℕ → ℕ → ℕ → Row
ply_row k c n = record { key = k; code = c; points = n; times = 1 }

adds_pushed : (old : List Row) (key code n : ℕ) → AddsPly (bag_content old) (bag_content (old ++ ply_row key code n ∷ [])) key code n
adds_pushed old key code n k c =
    (λ i. of_sums (sum_by_push (one k c) old row i) (sum_by_push (gain (λ r. r.points) k c) old row i) (sum_by_push (gain (λ r. r.times) k c) old row i))
    ∙ by (is_pair key code k c) refl
  where
    row : Row
    row = ply_row key code n

    by : (b : Bool) → is_pair key code k c ≡ b → of_sums (count_of old k c + cond b 1 0) (points_of old k c + cond b n 0) (times_of old k c + cond b 1 0) ≡ (if b then Some (more n (held (bag_content old) k c)) else bag_content old k c)
    by true e =
        let test : nat_lt 0 (count_of old k c + 1) ≡ true = grind (arith, nat_tests) in
        ap (λ b. of_held b (points_of old k c + n) (times_of old k c + 1)) test ∙ ap (λ h. Some (more n h)) (sym (held_sums old k c))
      where
        of_held : Bool → ℕ → ℕ → Option Held
        of_held b p t = cond b (Some (record { points = p; times = t })) None
    by false e =
        let count : count_of old k c + 0 ≡ count_of old k c = omega arith in
        let points : points_of old k c + 0 ≡ points_of old k c = omega arith in
        let times : times_of old k c + 0 ≡ times_of old k c = omega arith in
        λ i. of_sums (count i) (points i) (times i)

-- what holds one ply more fits
fit_added : (old new : List Row) (key code n : ℕ) → AddsPly (bag_content old) (bag_content new) key code n → SumsFit old → HasRoomFor (held (bag_content old) key code) n → SumsFit new
fit_added old new key code n adds fit room = record { points = λ k c. (by k c (is_pair key code k c) refl).0; times = λ k c. (by k c (is_pair key code k c) refl).1 }
  where
    by : (k c : ℕ) (b : Bool) → is_pair key code k c ≡ b → (points_of new k c ≤ 2 ^ 63) × (times_of new k c ≤ 2 ^ 63)
    by k c true e =
        let now = held_added (bag_content old) (bag_content new) key code n adds k c true e in
        let p = is_pair_same key code k c e in
        let same : held (bag_content old) key code ≡ held (bag_content old) k c = λ i. held (bag_content old) (p.0 i) (p.1 i) in (
          omega (arith, ap (λ (h : Held). h.points) now, ap (λ (h : Held). h.points) same, held_points new k c, room.points),
          omega (arith, ap (λ (h : Held). h.times) now, ap (λ (h : Held). h.times) same, held_times new k c, room.times),
        )
    by k c false e =
        let now = held_added (bag_content old) (bag_content new) key code n adds k c false e in (
          omega (arith, ap (λ (h : Held). h.points) now, held_points new k c, held_points old k c, fit.points k c),
          omega (arith, ap (λ (h : Held). h.times) now, held_times new k c, held_times old k c, fit.times k c),
        )

-- ---- the wide rows beside the narrow ones

pub spills_none : Spills [] []
spills_none = record { distinct = IsDistinct-from_apart same_pair [] (λ i j d l fits. absurd (omega arith)); there = λ j lt. absurd (omega arith) }

pub spills_more : (rows new wide : List Row) → ((k c : ℕ) → count_of rows k c ≤ count_of new k c) → Spills rows wide → Spills new wide
spills_more rows new wide grows s = record { distinct = s.distinct; there = λ j lt. let here = s.there j lt in let more = grows (row_at wide j).key (row_at wide j).code in omega arith }

pub spills_narrow : (rows new wide : List Row) (k c n : ℕ) → AddsThere rows new k c n → Spills rows wide → Spills new wide
spills_narrow rows new wide k c n h s = spills_more rows new wide (λ a b. let same = ap (λ l. count_of l a b) h.added ∙ count_set rows h.index n 1 a b h.there.0 in omega (arith, same)) s

spills_wide : (rows wide new : List Row) (k c n : ℕ) → AddsThere wide new k c n → Spills rows wide → Spills rows new
spills_wide rows wide new k c n h s = subst (Spills rows) (sym h.added) (record {
  distinct = IsDistinct-more wide h.index n h.there.0 s.distinct;
  there = λ j lt.
      let keys = same_keys wide h.index n j (new_row 0 0) h.there.0 in
      subst (λ m. 0 < m) (λ i. count_of rows (sym keys.0 i) (sym keys.1 i)) (s.there j (omega (arith, lt, length-set wide h.index (with_more n 1 (row_at wide h.index)))));
})

pub spills_pushed : (rows wide : List Row) (row : Row) → count_of wide row.key row.code ≡ 0 → 0 < count_of rows row.key row.code → Spills rows wide → Spills rows (wide ++ row ∷ [])
spills_pushed rows wide row none some s = record {
  distinct = IsDistinct-from_apart same_pair (wide ++ row ∷ []) (λ i j d lt within. apart i j d lt (cases_lt j (length wide)) within);
  there = λ j lt. there j lt (cases_lt j (length wide));
}
  where
    k : ℕ
    k = row.key

    c : ℕ
    c = row.code

    size : length (wide ++ row ∷ []) ≡ length wide + 1
    size = length-append wide (row ∷ [])

    last : (d : Row) (j : ℕ) → length wide ≤ j → j < length (wide ++ row ∷ []) → get_or (wide ++ row ∷ []) j d ≡ row
    last d j le lt = let at : j ≡ length wide + 0 = omega (arith, lt, size) in ap (λ m. get_or (wide ++ row ∷ []) m d) at ∙ get_or-append-add wide (row ∷ []) 0 d

    other : (i : ℕ) (d : Row) → i < length wide → (b : Bool) → is_row k c (get_or wide i d) ≡ b → same_pair (get_or wide i d) row ≡ false
    other i d lt true e = absurd (omega (arith, counted wide k c i lt (ap (λ (r : Row). is_row k c r) (get_or_same i d lt) ∙ e), none))
      where
        get_or_same : (i : ℕ) (d : Row) → i < length wide → row_at wide i ≡ get_or wide i d
        get_or_same i d lt = get_or_default wide i (new_row 0 0) d lt
    other i d lt false e = same_equiv.symm (get_or wide i d) row ∙ e

    apart : (i j : ℕ) (d : Row) → i < j → (j < length wide) ⊎ (length wide ≤ j) → j < length (wide ++ row ∷ []) → same_pair (get_or (wide ++ row ∷ []) i d) (get_or (wide ++ row ∷ []) j d) ≡ false
    apart i j d lt (inl low) within =
        (λ t. same_pair (get_or_append_left wide (row ∷ []) d i (omega arith) t) (get_or_append_left wide (row ∷ []) d j low t)) ∙ apart_from_distinct same_pair wide i j d s.distinct lt low
    apart i j d lt (inr high) within =
        let inside : i < length wide = omega (arith, within, size) in
        (λ t. same_pair (get_or_append_left wide (row ∷ []) d i inside t) (last d j high within t)) ∙ other i d inside (is_row k c (get_or wide i d)) refl

    there : (j : ℕ) → j < length (wide ++ row ∷ []) → (j < length wide) ⊎ (length wide ≤ j) → 0 < count_of rows (row_at (wide ++ row ∷ []) j).key (row_at (wide ++ row ∷ []) j).code
    there j lt (inl low) = subst (λ (r : Row). 0 < count_of rows r.key r.code) (sym (get_or_append_left wide (row ∷ []) (new_row 0 0) j low)) (s.there j low)
    there j lt (inr high) = subst (λ (r : Row). 0 < count_of rows r.key r.code) (sym (last (new_row 0 0) j high lt)) some

-- a row that is there, and not among the wide ones, is a narrow one
pub narrow_counted : (rows wide : List Row) (k c : ℕ) → IsSome (bag_content (rows ++ wide) k c) → count_of wide k c ≡ 0 → 0 < count_of rows k c
narrow_counted rows wide k c some none = elim (cases_lt 0 (count_of rows k c)) [
  | inl lt ↦ lt
  | inr le ↦
      let nothing : count_of (rows ++ wide) k c ≡ 0 = omega (arith, sum_by-append (one k c) rows wide, none) in
      let test : nat_lt 0 (count_of (rows ++ wide) k c) ≡ false = grind (arith, nat_tests) in
      absurd (true≢false (sym some ∙ ap of_test test))
]
  where
    of_test : Bool → Bool
    of_test b = is_some (cond b (Some (sums (points_of (rows ++ wide) k c) (times_of (rows ++ wide) k c))) None)
      where
        sums : ℕ → ℕ → Held
        sums p t = record { points = p; times = t }

-- there is room for a wide row more
pub room_for : (rows wide : List Row) (k c : ℕ) → count_of wide k c ≡ 0 → 0 < count_of rows k c → Spills rows wide → length wide < length rows
room_for rows wide k c none some s =
    let more = spills_pushed rows wide (ply_row k c 0) none some s in
    omega (arith, wide_few (wide ++ ply_row k c 0 ∷ []) rows more.distinct (λ j lt. more.there j lt), length-append wide (ply_row k c 0 ∷ []))

-- ---- a narrow row more

pub sound_none : AreSound [] []
sound_none = record { fit = record { points = λ k c. omega arith; times = λ k c. omega arith }; spills = spills_none }

moved : (rows wide : List Row) (r : Row) → HoldsSame ((rows ++ wide) ++ r ∷ []) ((rows ++ r ∷ []) ++ wide)
moved rows wide r k c =
    let count : count_of ((rows ++ r ∷ []) ++ wide) k c ≡ count_of ((rows ++ wide) ++ r ∷ []) k c = sum (one k c) in
    let points : points_of ((rows ++ r ∷ []) ++ wide) k c ≡ points_of ((rows ++ wide) ++ r ∷ []) k c = sum (gain (λ r. r.points) k c) in
    let times : times_of ((rows ++ r ∷ []) ++ wide) k c ≡ times_of ((rows ++ wide) ++ r ∷ []) k c = sum (gain (λ r. r.times) k c) in
    λ i. of_sums (count i) (points i) (times i)
  where
    sum : (f : Row → ℕ) → sum_by f ((rows ++ r ∷ []) ++ wide) ≡ sum_by f ((rows ++ wide) ++ r ∷ [])
    sum f = omega (arith, sum_by-append f (rows ++ r ∷ []) wide, sum_by_push f rows r, sum_by_push f (rows ++ wide) r, sum_by-append f rows wide)

pub makes_beside : (rows wide : List Row) (key code : ℕ) → MakesRow (bag_content (rows ++ wide)) (bag_content ((rows ++ new_row key code ∷ []) ++ wide)) key code
makes_beside rows wide key code k c = moved rows wide (new_row key code) k c ∙ makes_pushed (rows ++ wide) key code k c

pub sound_beside : (rows wide : List Row) (key code : ℕ) → AreSound rows wide → AreSound (rows ++ new_row key code ∷ []) wide
sound_beside rows wide key code k = record {
  fit = fit_same ((rows ++ wide) ++ new_row key code ∷ []) _ (moved rows wide (new_row key code)) (fit_pushed (rows ++ wide) key code k.fit);
  spills = spills_more rows (rows ++ new_row key code ∷ []) wide (λ a b. omega (arith, sum_by_push (one a b) rows (new_row key code))) k.spills;
}

pub sound_added : (rows wide new_rows new_wide : List Row) (key code n : ℕ) → AddsPly (bag_content (rows ++ wide)) (bag_content (new_rows ++ new_wide)) key code n
    → HasRoomFor (held (bag_content (rows ++ wide)) key code) n → Spills new_rows new_wide → AreSound rows wide → AreSound new_rows new_wide
sound_added rows wide new_rows new_wide key code n adds fits spills k = record {
  fit = fit_added (rows ++ wide) (new_rows ++ new_wide) key code n adds k.fit fits;
  spills = spills;
}

-- a ply more in the wide rows, and what is then true
pub wide_adds : (rows wide new : List Row) (key code n : ℕ) → AddsWide wide new key code n → AddsPly (bag_content (rows ++ wide)) (bag_content (rows ++ new)) key code n
wide_adds rows wide new key code n (inl h) = adds_there (rows ++ wide) (rows ++ new) key code n (all_wide rows wide new key code n h)
wide_adds rows wide new key code n (inr h) =
    subst (λ l. AddsPly (bag_content (rows ++ wide)) (bag_content l) key code n) (append_assoc rows wide (ply_row key code n ∷ []) ∙ ap (λ l. rows ++ l) (sym h.1)) (adds_pushed (rows ++ wide) key code n)

pub wide_spills : (rows wide new : List Row) (key code n : ℕ) → AddsWide wide new key code n → IsSome (bag_content (rows ++ wide) key code) → Spills rows wide → Spills rows new
wide_spills rows wide new key code n (inl h) some s = spills_wide rows wide new key code n h s
wide_spills rows wide new key code n (inr h) some s = subst (Spills rows) (sym h.1) (spills_pushed rows wide (ply_row key code n) h.0 (narrow_counted rows wide key code some h.0) s)

-- what the wide rows hold has room where all rows have
pub wide_room : (rows wide : List Row) (key code n : ℕ) → HasRoomFor (held (bag_content (rows ++ wide)) key code) n → HasRoomFor (held (bag_content wide) key code) n
wide_room rows wide key code n room = record {
  points = omega (arith, room.points, held_points (rows ++ wide) key code, held_points wide key code, sum_by-append (gain (λ r. r.points) key code) rows wide);
  times = omega (arith, room.times, held_times (rows ++ wide) key code, held_times wide key code, sum_by-append (gain (λ r. r.times) key code) rows wide);
}

pub there_length : (old new : List Row) (k c n : ℕ) → AddsThere old new k c n → length new ≡ length old
there_length old new k c n h = ap length h.added ∙ length-set old h.index (with_more n 1 (row_at old h.index))

-- the rows added up and narrowed keep all that
same_narrowed : (rows wide sums new_rows new_wide : List Row) → HoldsSame (rows ++ wide) sums → AreNarrowed sums new_rows new_wide → HoldsSame (rows ++ wide) (new_rows ++ new_wide)
same_narrowed rows wide sums new_rows new_wide added narrowed k c = narrowed.same k c ∙ added k c

pub sound_narrowed : (rows wide sums new_rows new_wide : List Row) → AreSound rows wide → HoldsSame (rows ++ wide) sums → AreNarrowed sums new_rows new_wide → AreSound new_rows new_wide
sound_narrowed rows wide sums new_rows new_wide k added narrowed =
    let same = same_narrowed rows wide sums new_rows new_wide added narrowed in
    record {
      fit = fit_same (rows ++ wide) (new_rows ++ new_wide) same k.fit;
      spills = narrowed.spills;
    }
