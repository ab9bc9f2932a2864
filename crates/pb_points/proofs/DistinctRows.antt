-- Rows of which no two are of one key and one code.
use Rattle.std.proofs.Common.{◌≡◌, ℕ, suc, ◌+◌, ◌<◌, ◌≤◌, Bool, true, false, cond, Some, None, option_map, unwrap_or, position, List, [], ◌∷◌, length, refl, sym, ap, ◌∙◌, arith, true≢false}
use Rattle.std.specs.Prelude.{sum_by}
use Rattle.std.specs.List.{IsDistinct, find}
use Rattle.std.proofs.lemmas.List.Sums.{fails_before_first, sum_by-cons}
use Rattle.std.proofs.lemmas.Map.Keys.{apart_from_distinct}
use Rattle.pb_points.specs.declared.row.Row.{Row}
use Rattle.pb_points.specs.Bag.{count_of, gain, points_of, times_of, total}
use Rattle.pb_points.specs.ListTally.{list_content}
use Rattle.pb_points.specs.Rows.{is_row, same_pair}
use Rattle.pb_points.specs.Tally.{held, held_of, is_pair, nothing}
use Rattle.pb_points.proofs.AddedRows.{sum_none}
use Rattle.pb_points.proofs.BagRows.{new_row, no_total, one, row_at}
use Rattle.pb_points.proofs.ListRows.{absent_past}
use Rattle.pb_points.proofs.Pairs.{is_pair_same, is_pair_itself}

sum_least : (f : Row → ℕ) (xs : List Row) → ((j : ℕ) → j < length xs → 1 ≤ f (row_at xs j)) → length xs ≤ sum_by f xs
sum_least f [] each = omega arith
sum_least f (x ∷ xs) each = omega (arith, sum_by-cons f x xs, each 0 (omega arith), sum_least f xs (λ j lt. each (suc j) (omega arith)))

-- of how many of the rows this one is
abbrev hits : Row → List Row → ℕ
hits r wide = sum_by (λ w. one w.key w.code r) wide

abbrev counts : List Row → List Row → ℕ
counts rows wide = sum_by (λ w. count_of rows w.key w.code) wide

counts_none : (wide : List Row) → counts [] wide ≡ 0
counts_none wide = sum_none (λ w. count_of [] w.key w.code) wide (λ j lt. refl)

counts_more : (r : Row) (rows wide : List Row) → counts (r ∷ rows) wide ≡ hits r wide + counts rows wide
counts_more r rows [] = refl
counts_more r rows (w ∷ wide) =
    omega (
      arith,
      sum_by-cons (λ w. count_of (r ∷ rows) w.key w.code) w wide,
      sum_by-cons (λ w. one w.key w.code r) w wide,
      sum_by-cons (λ w. count_of rows w.key w.code) w wide,
      sum_by-cons (one w.key w.code) r rows,
      counts_more r rows wide,
    )

abbrev Apart : List Row → Type 0
Apart wide = (i j : ℕ) → i < j → j < length wide → same_pair (row_at wide i) (row_at wide j) ≡ false

hits_few : (r : Row) (wide : List Row) → Apart wide → hits r wide ≤ 1
hits_few r [] apart = omega arith
hits_few r (w ∷ wide) apart = by (is_row w.key w.code r) refl (hits_few r wide (λ i j lt within. apart (suc i) (suc j) (omega arith) (omega arith)))
  where
    other : is_row w.key w.code r ≡ true → (j : ℕ) → j < length wide → (b : Bool) → is_row (row_at wide j).key (row_at wide j).code r ≡ b → one (row_at wide j).key (row_at wide j).code r ≡ 0
    other here j lt true there =
        let v = row_at wide j in
        let p = is_pair_same r.key r.code w.key w.code here in
        let q = is_pair_same r.key r.code v.key v.code there in
        let same : same_pair w v ≡ true = (λ i. is_pair ((sym q.0 ∙ p.0) i) ((sym q.1 ∙ p.1) i) w.key w.code) ∙ is_pair_itself w.key w.code in
        absurd (true≢false (sym same ∙ apart 0 (suc j) (omega arith) (omega arith)))
    other here j lt false there = ap (λ b. cond b 1 0) there

    by : (b : Bool) → is_row w.key w.code r ≡ b → hits r wide ≤ 1 → hits r (w ∷ wide) ≤ 1
    by true here rest =
        let first : one w.key w.code r ≡ 1 = ap (λ b. cond b 1 0) here in
        let none : hits r wide ≡ 0 = sum_none (λ w. one w.key w.code r) wide (λ j lt. other here j lt (is_row (row_at wide j).key (row_at wide j).code r) refl) in
        omega (arith, sum_by-cons (λ w. one w.key w.code r) w wide, first, none)
    by false here rest =
        let first : one w.key w.code r ≡ 0 = ap (λ b. cond b 1 0) here in
        omega (arith, sum_by-cons (λ w. one w.key w.code r) w wide, first, rest)

counts_few : (rows wide : List Row) → Apart wide → counts rows wide ≤ length rows
counts_few [] wide apart = omega (arith, counts_none wide)
counts_few (r ∷ rows) wide apart = omega (arith, counts_more r rows wide, hits_few r wide apart, counts_few rows wide apart)

-- where each is of a key and a code of other rows, they are no more than those
pub wide_few : (wide rows : List Row) → IsDistinct same_pair wide → ((j : ℕ) → j < length wide → 0 < count_of rows (row_at wide j).key (row_at wide j).code) → length wide ≤ length rows
wide_few wide rows distinct there =
    omega (
      arith,
      sum_least (λ w. count_of rows w.key w.code) wide (λ j lt. there j lt),
      counts_few rows wide (λ i j lt within. apart_from_distinct same_pair wide i j (new_row 0 0) distinct lt within),
    )

-- ---- what a search finds

-- a row that the search doesn't find isn't counted
pub none_counted : (rows : List Row) (k c : ℕ) → position (is_row k c) rows ≡ None → count_of rows k c ≡ 0
none_counted rows k c none =
    sum_none (one k c) rows (λ j lt. ap (λ b. cond b 1 0) (fails_before_first (is_row k c) rows j (new_row 0 0) (omega (arith, lt, absent_past rows k c none))))

-- where no two are of one key and one code, the first row of both holds what all of them hold
list_sums : (rows : List Row) (k c : ℕ) → Apart rows → held (list_content rows) k c ≡ record { points = points_of rows k c; times = times_of rows k c }
list_sums [] k c apart = refl
list_sums (r ∷ rows) k c apart = by (is_row k c r) refl (list_sums rows k c (λ i j lt within. apart (suc i) (suc j) (omega arith) (omega arith)))
  where
    first : (b : Bool) → is_row k c r ≡ b → held (list_content (r ∷ rows)) k c ≡ unwrap_or (option_map held_of (cond b (Some r) (find (is_row k c) rows))) nothing
    first b e = ap (λ b. unwrap_or (option_map held_of (cond b (Some r) (find (is_row k c) rows))) nothing) e

    -- no row after it is of this key and this code
    alone : is_row k c r ≡ true → count_of rows k c ≡ 0
    alone here =
        let p = is_pair_same r.key r.code k c here in
        sum_none (one k c) rows (λ j lt. ap (λ b. cond b 1 0) ((λ i. is_row (sym p.0 i) (sym p.1 i) (row_at rows j)) ∙ apart 0 (suc j) (omega arith) (omega arith)))

    by : (b : Bool) → is_row k c r ≡ b → held (list_content rows) k c ≡ record { points = points_of rows k c; times = times_of rows k c }
        → held (list_content (r ∷ rows)) k c ≡ record { points = points_of (r ∷ rows) k c; times = times_of (r ∷ rows) k c }
    by true here rest =
        let only : (field : Row → ℕ) → field r ≡ total field (r ∷ rows) k c =
        λ field. omega (arith, sum_by-cons (gain field k c) r rows, ap (λ b. cond b (field r) 0) here, no_total field rows k c (alone here)) in
        let points = only (λ r. r.points) in
        let times = only (λ r. r.times) in
        first true here ∙ (λ i. record { points = points i; times = times i })
    by false here rest =
        let others : (field : Row → ℕ) → total field rows k c ≡ total field (r ∷ rows) k c =
        λ field. omega (arith, sum_by-cons (gain field k c) r rows, ap (λ b. cond b (field r) 0) here) in
        let points = others (λ r. r.points) in
        let times = others (λ r. r.times) in
        first false here ∙ rest ∙ (λ i. record { points = points i; times = times i })

pub distinct_sums : (rows : List Row) (k c : ℕ) → IsDistinct same_pair rows → held (list_content rows) k c ≡ record { points = points_of rows k c; times = times_of rows k c }
distinct_sums rows k c distinct = list_sums rows k c (λ i j lt within. apart_from_distinct same_pair rows i j (new_row 0 0) distinct lt within)
