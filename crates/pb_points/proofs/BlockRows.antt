-- Rows in blocks, and what becomes of them where one block changes.
use Rattle.std.proofs.Common.{◌≡◌, ℕ, ◌+◌, ◌-◌, ◌<◌, ◌≤◌, ◌^◌, zero, suc, Some, unwrap_or, true, cond, List, [], ◌∷◌, ◌++◌, length, get_or, set, drop, take, refl, sym, ap, ◌∙◌, arith, subst}
use Rattle.std.specs.Prelude.{slice_get, Vec}
use Rattle.std.specs.declared.alloc.Global.{Global}
use Rattle.std.proofs.Math.ListN.{length-append}
use Rattle.std.proofs.lemmas.List.{take_more, take-append-drop, set-append_left, set-append_right, append-nil, get_or_default, get_or_append_left, get_or-append-add, set-get_or}
use Rattle.std.proofs.lemmas.List.Concat.{flat_map-append, get_or-flat_map}
use Rattle.std.proofs.lemmas.List.Folds.{length-flat_map-take}
use Rattle.std.proofs.lemmas.List.Sums.{sum_by-append, get_or-le-sum_by}
use Rattle.std.proofs.lemmas.Option.{get_or_from_slice_get, slice_get_within}
use Rattle.pb_points.specs.declared.row.Row.{Row}
use Rattle.pb_points.specs.Bag.{IsRowAt, bag_content, gain, total}
use Rattle.pb_points.specs.Blocks.{AddsThere, IsRowIn, rows_in}
use Rattle.pb_points.specs.Rows.{is_row}
use Rattle.pb_points.specs.Tally.{HasRoomFor, held}
use Rattle.pb_points.proofs.BagRows.{held_points, held_times, new_row, row_at, with_more}

abbrev pub Block : Type 0
Block = Vec Row Global

abbrev rows_of : Block → List Row
rows_of block = block.items

-- ---- one block more

pub rows_pushed : (blocks : List Block) (block : Block) → rows_in (blocks ++ block ∷ []) ≡ rows_in blocks ++ block.items
rows_pushed blocks block = flat_map-append rows_of blocks (block ∷ []) ∙ ap (λ l. rows_in blocks ++ l) (append-nil block.items)

pub rows_more : (blocks : List Block) (i : ℕ) (d : Block) → i < length blocks → rows_in (take (i + 1) blocks) ≡ rows_in (take i blocks) ++ (get_or blocks i d).items
rows_more blocks i d lt = ap rows_in (take_more blocks i d lt) ∙ rows_pushed (take i blocks) (get_or blocks i d)

-- ---- sums over blocks

pub total_block : (field : Row → ℕ) (blocks : List Block) (i : ℕ) (block : Block) (k c : ℕ) → i < length blocks → block ≡ get_or blocks i block
    → total field (rows_in (take (i + 1) blocks)) k c ≡ total field (rows_in (take i blocks)) k c + total field block.items k c
total_block field blocks i block k c lt is =
    ap (λ l. total field l k c) (rows_more blocks i block lt) ∙ sum_by-append (gain field k c) (rows_in (take i blocks)) (get_or blocks i block).items
    ∙ ap (λ (b : Block). total field (rows_in (take i blocks)) k c + total field b.items k c) (sym is)

pub total_within : (field : Row → ℕ) (blocks : List Block) (i k c : ℕ) → total field (rows_in (take i blocks)) k c ≤ total field (rows_in blocks) k c
total_within field blocks i k c =
    let cut : total field (rows_in (take i blocks ++ drop i blocks)) k c ≡ total field (rows_in (take i blocks)) k c + total field (rows_in (drop i blocks)) k c =
    ap (λ l. total field l k c) (flat_map-append rows_of (take i blocks) (drop i blocks)) ∙ sum_by-append (gain field k c) (rows_in (take i blocks)) (rows_in (drop i blocks)) in
    omega (arith, cut, ap (λ l. total field (rows_in l) k c) (take-append-drop i blocks))

pub total_both : (field : Row → ℕ) (blocks : List Block) (last : List Row) (k c : ℕ) → total field (rows_in blocks ++ last) k c ≡ total field (rows_in blocks) k c + total field last k c
total_both field blocks last k c = sum_by-append (gain field k c) (rows_in blocks) last

-- ---- one row of a block

-- where a row of a block stands among all rows
abbrev pub index_among : List Block → ℕ → ℕ → ℕ
index_among blocks i index = length (rows_in (take i blocks)) + index

module _ (blocks : List Block) (i index : ℕ) (block : Block) (here : slice_get blocks i ≡ Some block) (within : index < length block.items) where
  is_block : get_or blocks i block ≡ block
  is_block = get_or_from_slice_get blocks i block block here

  pub index_within : index_among blocks i index < length (rows_in blocks)
  index_within = omega (arith, length-flat_map-take rows_of blocks i block (slice_get_within blocks i block here), ap (λ (b : Block). length b.items) is_block, within)

  pub row_among : row_at (rows_in blocks) (index_among blocks i index) ≡ row_at block.items index
  row_among =
      get_or-flat_map rows_of blocks i index block (record { key = 0; code = 0; points = 0; times = 0 }) (slice_get_within blocks i block here) (subst (λ (b : Block). index < length b.items) (sym is_block) within)
      ∙ ap (λ (b : Block). row_at b.items index) is_block

pub rows_set : (blocks : List Block) (i index : ℕ) (block new : Block) (row : Row) → slice_get blocks i ≡ Some block → index < length block.items → new.items ≡ set block.items index row
    → rows_in (set blocks i new) ≡ set (rows_in blocks) (index_among blocks i index) row
rows_set [] i index block new row here within is = cc
rows_set (b ∷ blocks) zero index block new row here within is =
    let same : b ≡ block = ap (λ o. unwrap_or o b) here in
    let fits : index < length b.items = subst (λ (x : Block). index < length x.items) (sym same) within in
    ap (λ l. l ++ rows_in blocks) (is ∙ ap (λ (x : Block). set x.items index row) (sym same))
    ∙ sym (set-append_left b.items (rows_in blocks) index row fits)
    ∙ ap (λ n. set (b.items ++ rows_in blocks) n row) (omega arith)
rows_set (b ∷ blocks) (suc i) index block new row here within is =
    let rest = rows_set blocks i index block new row here within is in
    let at : ℕ = index_among (b ∷ blocks) (suc i) index in
    let size : length (b.items ++ rows_in (take i blocks)) ≡ length b.items + length (rows_in (take i blocks)) = length-append b.items (rows_in (take i blocks)) in
    let past : length b.items ≤ at = omega (arith, size) in
    let left : at - length b.items ≡ index_among blocks i index = omega (arith, size) in
    ap (λ l. b.items ++ l) rest
    ∙ ap (λ n. b.items ++ set (rows_in blocks) n row) (sym left)
    ∙ sym (set-append_right b.items (rows_in blocks) (length b.items) at row refl past)

-- ---- a ply added to a row

-- among all rows, at the index, is this row, and it is of this key and this code
pub record IsIndex (all : List Row) (at key code : ℕ) (row : Row) : Type 0 where
  pub within : at < length all
  pub here : row_at all at ≡ row
  pub test : is_row key code row ≡ true

-- a row of the last block
pub index_last : (before : List Row) (last : List Row) (index key code : ℕ) (row : Row) → IsRowAt last index key code → row ≡ get_or last index row → IsIndex (before ++ last) (length before + index) key code row
index_last before last index key code row there row_is =
    let here : row_at last index ≡ row = get_or_default last index (new_row 0 0) row there.0 ∙ sym row_is in
    record {
      within = omega (arith, length-append before last, there.0);
      here = get_or-append-add before last index (new_row 0 0) ∙ here;
      test = ap (λ r. is_row key code r) (sym here) ∙ there.1;
    }

pub set_last : (before last : List Row) (index : ℕ) (row : Row) → before ++ set last index row ≡ set (before ++ last) (length before + index) row
set_last before last index row =
    let back : length before + index - length before ≡ index = omega arith in
    ap (λ n. before ++ set last n row) (sym back) ∙ sym (set-append_right before last (length before) (length before + index) row refl (omega arith))

-- the block that was found
module _ (blocks : List Block) (i index key code : ℕ) (was : Block) (held_there : IsRowIn blocks i index key code) (block_is : was ≡ get_or blocks i was) where
  same_block : was ≡ held_there.0
  same_block = block_is ∙ get_or_from_slice_get blocks i held_there.0 was held_there.1

  is_there : slice_get blocks i ≡ Some was
  is_there = held_there.1 ∙ ap (λ b. Some b) (sym same_block)

  pub is_fitting : index < length was.items
  is_fitting = subst (λ (b : Block). index < length b.items) (sym same_block) held_there.2.0

-- a row of a full block
module _ (blocks : List Block) (last : List Row) (i index key code : ℕ) (was : Block) (row : Row)
    (held_there : IsRowIn blocks i index key code) (block_is : was ≡ get_or blocks i was) (row_is : row ≡ get_or was.items index row) where
  there : slice_get blocks i ≡ Some was
  there = is_there blocks i index key code was held_there block_is

  fits_there : index < length was.items
  fits_there = is_fitting blocks i index key code was held_there block_is

  row_there : row_at was.items index ≡ row
  row_there = get_or_default was.items index (new_row 0 0) row fits_there ∙ sym row_is

  in_full : index_among blocks i index < length (rows_in blocks)
  in_full = index_within blocks i index was there fits_there

  pub index_full : IsIndex (rows_in blocks ++ last) (index_among blocks i index) key code row
  index_full = record {
    within = omega (arith, in_full, length-append (rows_in blocks) last);
    here = get_or_append_left (rows_in blocks) last (new_row 0 0) (index_among blocks i index) in_full ∙ row_among blocks i index was there fits_there ∙ row_there;
    test = ap (λ r. is_row key code r) (sym row_there) ∙ subst (λ (b : Block). is_row key code (row_at b.items index) ≡ true) (sym (same_block blocks i index key code was held_there block_is)) held_there.2.1;
  }

  pub set_full : (new : Block) (changed : Row) → new.items ≡ set was.items index changed → rows_in (set blocks i new) ++ last ≡ set (rows_in blocks ++ last) (index_among blocks i index) changed
  set_full new changed is = ap (λ l. l ++ last) (rows_set blocks i index was new changed there fits_there is) ∙ sym (set-append_left (rows_in blocks) last (index_among blocks i index) changed in_full)

module _ (all : List Row) (at key code : ℕ) (row : Row) (index : IsIndex all at key code row) where
  test_at : is_row key code (row_at all at) ≡ true
  test_at = ap (λ r. is_row key code r) index.here ∙ index.test

  -- it has a ply more
  pub added_there : (n : ℕ) (new : List Row) → new ≡ set all at (with_more n 1 row) → AddsThere all new key code n
  added_there n new is = record { index = at; there = (index.within, test_at); added = is ∙ ap (λ r. set all at (with_more n 1 r)) (sym index.here) }

  -- put where it was it changes nothing
  pub same_there : (new : List Row) → new ≡ set all at row → new ≡ all
  same_there new is = is ∙ ap (λ r. set all at r) (sym index.here) ∙ set-get_or all at (new_row 0 0)

  part_at : (field : Row → ℕ) → field row ≤ total field all key code
  part_at field = omega (
    arith,
    get_or-le-sum_by (gain field key code) all at (new_row 0 0) index.within,
    ap (λ b. cond b (field (row_at all at)) 0) test_at,
    ap field index.here,
  )

  pub points_at : (n : ℕ) → HasRoomFor (held (bag_content all) key code) n → row.points + n ≤ 2 ^ 63
  points_at n room = omega (arith, part_at (λ r. r.points), room.points, held_points all key code)

  pub times_at : (n : ℕ) → HasRoomFor (held (bag_content all) key code) n → row.times + 1 ≤ 2 ^ 63
  times_at n room = omega (arith, part_at (λ r. r.times), room.times, held_times all key code)
