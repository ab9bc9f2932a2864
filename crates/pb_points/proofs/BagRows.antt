-- Rows that add up.
use Rattle.std.proofs.Common.{◌≡◌, ℕ, ◌+◌, ◌<◌, Bool, true, false, cond, if◌then◌else◌, Option, Some, None, unwrap_or, List, [], ◌∷◌, ◌++◌, length, get_or, set, IsPermutation, refl, sym, ap, ◌∙◌, arith, subst}
use Rattle.std.specs.Prelude.{nat_lt}
use Rattle.std.proofs.lemmas.Bool.Decides.{nat_tests}
use Rattle.std.proofs.lemmas.List.Sums.{sum_by-cons, sum_by_push, sum_by-set, get_or-le-sum_by}
use Rattle.std.proofs.lemmas.List.Sorted.{sum_by-IsPermutation}
use Rattle.pb_points.specs.declared.row.Row.{Row}
use Rattle.pb_points.specs.Bag.{HoldsSame, SumsFit, bag_content, count_of, gain, points_of, times_of, total}
use Rattle.pb_points.specs.Rows.{is_row}
use Rattle.pb_points.specs.Tally.{Content, Held, MakesRow, AddsPly, held, is_pair, more, nothing}
use Rattle.pb_points.proofs.Pairs.{is_pair_same, is_pair_itself}

-- ---- what a count and a sum say together

abbrev pub one : ℕ → ℕ → Row → ℕ
one k c r = cond (is_row k c r) 1 0

abbrev pub of_sums : ℕ → ℕ → ℕ → Option Held
of_sums n p t = if nat_lt 0 n then Some (record { points = p; times = t }) else None

abbrev pub points_held : Option Held → ℕ
points_held o = (unwrap_or o nothing).points

abbrev pub times_held : Option Held → ℕ
times_held o = (unwrap_or o nothing).times

-- without a row there is nothing of any field
pub no_total : (field : Row → ℕ) (rows : List Row) (k c : ℕ) → count_of rows k c ≡ 0 → total field rows k c ≡ 0
no_total field [] k c e = refl
no_total field (r ∷ rows) k c e = by (no_total field rows k c) (is_row k c r) refl
  where
    by : (count_of rows k c ≡ 0 → total field rows k c ≡ 0) → (b : Bool) → is_row k c r ≡ b → total field (r ∷ rows) k c ≡ 0
    by rest true is = let here : one k c r ≡ 1 = ap (λ b. cond b 1 0) is in absurd (omega (arith, sum_by-cons (one k c) r rows, here, e))
    by rest false is =
        let here : one k c r ≡ 0 = ap (λ b. cond b 1 0) is in
        let none : count_of rows k c ≡ 0 = omega (arith, sum_by-cons (one k c) r rows, here, e) in
        omega (arith, sum_by-cons (gain field k c) r rows, ap (λ b. cond b (field r) 0) is, rest none)

-- what the rows of a key and a code hold, with or without a row
pub held_sums : (rows : List Row) (k c : ℕ) → held (bag_content rows) k c ≡ record { points = points_of rows k c; times = times_of rows k c }
held_sums rows k c = by (nat_lt 0 (count_of rows k c)) refl
  where
    sums : Held
    sums = record { points = points_of rows k c; times = times_of rows k c }

    by : (b : Bool) → nat_lt 0 (count_of rows k c) ≡ b → held (bag_content rows) k c ≡ sums
    by true e = ap (λ b. unwrap_or (cond b (Some sums) None) nothing) e
    by false e =
        let none : count_of rows k c ≡ 0 = grind (arith, nat_tests) in
        let points = no_total (λ r. r.points) rows k c none in
        let times = no_total (λ r. r.times) rows k c none in
        ap (λ b. unwrap_or (cond b (Some sums) None) nothing) e ∙ (λ i. record { points = sym points i; times = sym times i })

pub held_points : (rows : List Row) (k c : ℕ) → (held (bag_content rows) k c).points ≡ points_of rows k c
held_points rows k c = ap (λ (h : Held). h.points) (held_sums rows k c)

pub held_times : (rows : List Row) (k c : ℕ) → (held (bag_content rows) k c).times ≡ times_of rows k c
held_times rows k c = ap (λ (h : Held). h.times) (held_sums rows k c)

-- ---- rows in another order

pub same_permuted : (xs ys : List Row) → IsPermutation xs ys → HoldsSame xs ys
same_permuted xs ys perm k c =
    let count = sum_by-IsPermutation (one k c) xs ys perm in
    let points = sum_by-IsPermutation (gain (λ r. r.points) k c) xs ys perm in
    let times = sum_by-IsPermutation (gain (λ r. r.times) k c) xs ys perm in
    λ i. of_sums (count i) (points i) (times i)

-- the same of rows that were listed, and then put in another order
pub same_sorted : {rows listed sorted now : List Row} → listed ≡ rows → IsPermutation listed sorted → now ≡ sorted → HoldsSame rows now
same_sorted {rows} {listed} {sorted} {now} from perm to = subst (λ l. HoldsSame l now) from (subst (HoldsSame listed) (sym to) (same_permuted listed sorted perm))

-- ---- a row at the end

abbrev pub new_row : ℕ → ℕ → Row
new_row key code = record { key = key; code = code; points = 0; times = 0 }

-- a row that has nothing of a field gives nothing to its sum
gain_nothing : (field : Row → ℕ) (k c : ℕ) (r : Row) → field r ≡ 0 → gain field k c r ≡ 0
gain_nothing field k c r none = by (is_row k c r)
  where
    by : (b : Bool) → cond b (field r) 0 ≡ 0
    by true = none
    by false = refl

pub total_pushed : (field : Row → ℕ) (rows : List Row) (r : Row) (k c : ℕ) → field r ≡ 0 → total field (rows ++ r ∷ []) k c ≡ total field rows k c
total_pushed field rows r k c none = omega (arith, sum_by_push (gain field k c) rows r, gain_nothing field k c r none)

pub makes_pushed : (rows : List Row) (key code : ℕ) → MakesRow (bag_content rows) (bag_content (rows ++ new_row key code ∷ [])) key code
makes_pushed rows key code k c =
    ap (λ n. of_sums n (points_of new k c) (times_of new k c)) (sum_by_push (one k c) rows row)
    ∙ (λ i. of_sums (count_of rows k c + one k c row) (points i) (times i)) ∙ by (is_pair key code k c) refl
  where
    row : Row
    row = new_row key code

    new : List Row
    new = rows ++ row ∷ []

    points : points_of new k c ≡ points_of rows k c
    points = total_pushed (λ r. r.points) rows row k c refl

    times : times_of new k c ≡ times_of rows k c
    times = total_pushed (λ r. r.times) rows row k c refl

    by : (b : Bool) → is_pair key code k c ≡ b → of_sums (count_of rows k c + cond b 1 0) (points_of rows k c) (times_of rows k c) ≡ (if b then Some (held (bag_content rows) k c) else bag_content rows k c)
    by true e =
        let more : nat_lt 0 (count_of rows k c + 1) ≡ true = grind (arith, nat_tests) in
        ap (λ b. cond b (Some (record { points = points_of rows k c; times = times_of rows k c })) None) more
        ∙ ap (λ h. Some h) (sym (held_sums rows k c))
    by false e =
        let same : count_of rows k c + 0 ≡ count_of rows k c = omega arith in
        ap (λ n. of_sums n (points_of rows k c) (times_of rows k c)) same

pub fit_pushed : (rows : List Row) (key code : ℕ) → SumsFit rows → SumsFit (rows ++ new_row key code ∷ [])
fit_pushed rows key code fit = record {
  points = λ k c. omega (arith, total_pushed (λ r. r.points) rows (new_row key code) k c refl, fit.points k c);
  times = λ k c. omega (arith, total_pushed (λ r. r.times) rows (new_row key code) k c refl, fit.times k c);
}

-- ---- a ply added to a row

abbrev pub row_at : List Row → ℕ → Row
row_at rows i = get_or rows i (new_row 0 0)

-- the row with so many points and plies more
abbrev pub with_more : ℕ → ℕ → Row → Row
with_more n m r = record r { points = r.points + n; times = r.times + m }

-- two rows of one key and one code: what the one has more of a field, its sum has more
pub gain_more : (field : Row → ℕ) (k c n : ℕ) (r s : Row) → is_row k c s ≡ is_row k c r → field s ≡ field r + n → gain field k c s ≡ gain field k c r + cond (is_row k c r) n 0
gain_more field k c n r s test is = ap (λ b. cond b (field s) 0) test ∙ by (is_row k c r)
  where
    by : (b : Bool) → cond b (field s) 0 ≡ cond b (field r) 0 + cond b n 0
    by true = is
    by false = refl

pub count_set : (rows : List Row) (i n m k c : ℕ) → i < length rows → count_of (set rows i (with_more n m (row_at rows i))) k c ≡ count_of rows k c
count_set rows i n m k c lt = omega (arith, sum_by-set (one k c) rows i (with_more n m (row_at rows i)) (new_row 0 0) lt)

pub total_set : (field : Row → ℕ) (rows : List Row) (i n : ℕ) (s : Row) (k c : ℕ) → i < length rows → is_row k c s ≡ is_row k c (row_at rows i) → field s ≡ field (row_at rows i) + n
    → total field (set rows i s) k c ≡ total field rows k c + cond (is_row k c (row_at rows i)) n 0
total_set field rows i n s k c lt test is = omega (arith, sum_by-set (gain field k c) rows i s (new_row 0 0) lt, gain_more field k c n (row_at rows i) s test is)

pub points_set : (rows : List Row) (i n m k c : ℕ) → i < length rows → points_of (set rows i (with_more n m (row_at rows i))) k c ≡ points_of rows k c + cond (is_row k c (row_at rows i)) n 0
points_set rows i n m k c lt = total_set (λ r. r.points) rows i n (with_more n m (row_at rows i)) k c lt refl refl

pub times_set : (rows : List Row) (i n m k c : ℕ) → i < length rows → times_of (set rows i (with_more n m (row_at rows i))) k c ≡ times_of rows k c + cond (is_row k c (row_at rows i)) m 0
times_set rows i n m k c lt = total_set (λ r. r.times) rows i m (with_more n m (row_at rows i)) k c lt refl refl

pub one_of : (k c : ℕ) (r : Row) → is_row k c r ≡ true → one k c r ≡ 1
one_of k c r e = ap (λ b. cond b 1 0) e

pub counted : (rows : List Row) (key code i : ℕ) → i < length rows → is_row key code (row_at rows i) ≡ true → 0 < count_of rows key code
counted rows key code i lt here = omega (arith, get_or-le-sum_by (one key code) rows i (new_row 0 0) lt, one_of key code (row_at rows i) here)

-- the test of a row of this key and this code is that of the pair
same_test : (key code k c : ℕ) (r : Row) → is_row key code r ≡ true → is_row k c r ≡ is_pair key code k c
same_test key code k c r here = let p = is_pair_same r.key r.code key code here in λ i. is_pair (p.0 i) (p.1 i) k c

pub adds_set : (rows : List Row) (key code i n : ℕ) → i < length rows → is_row key code (row_at rows i) ≡ true
    → AddsPly (bag_content rows) (bag_content (set rows i (with_more n 1 (row_at rows i)))) key code n
adds_set rows key code i n lt here k c =
    (λ j. of_sums (count_set rows i n 1 k c lt j) (points_set rows i n 1 k c lt j) (times_set rows i n 1 k c lt j))
    ∙ ap (λ b. of_sums (count_of rows k c) (points_of rows k c + cond b n 0) (times_of rows k c + cond b 1 0)) (same_test key code k c (row_at rows i) here)
    ∙ by (is_pair key code k c) refl
  where
    by : (b : Bool) → is_pair key code k c ≡ b → of_sums (count_of rows k c) (points_of rows k c + cond b n 0) (times_of rows k c + cond b 1 0) ≡ (if b then Some (more n (held (bag_content rows) k c)) else bag_content rows k c)
    by true e =
        let p = is_pair_same key code k c e in
        let some : 0 < count_of rows k c = subst (λ m. 0 < m) (λ i. count_of rows (p.0 i) (p.1 i)) (counted rows key code i lt here) in
        let test : nat_lt 0 (count_of rows k c) ≡ true = grind (arith, nat_tests) in
        ap (λ b. cond b (Some (record { points = points_of rows k c + n; times = times_of rows k c + 1 })) None) test
        ∙ ap (λ h. Some (more n h)) (sym (held_sums rows k c))
    by false e =
        let points : points_of rows k c + 0 ≡ points_of rows k c = omega arith in
        let times : times_of rows k c + 0 ≡ times_of rows k c = omega arith in
        λ i. of_sums (count_of rows k c) (points i) (times i)

-- what is held of a key and a code after a ply more
pub held_added : (old new : Content) (key code n : ℕ) → AddsPly old new key code n → (k c : ℕ) (b : Bool) → is_pair key code k c ≡ b → held new k c ≡ (if b then more n (held old k c) else held old k c)
held_added old new key code n adds k c true e = ap (λ o. unwrap_or o nothing) (adds k c ∙ ap (λ b. if b then Some (more n (held old k c)) else old k c) e)
held_added old new key code n adds k c false e = ap (λ o. unwrap_or o nothing) (adds k c ∙ ap (λ b. if b then Some (more n (held old k c)) else old k c) e)

-- ---- what follows

-- what holds the same fits the same
pub fit_same : (old new : List Row) → HoldsSame old new → SumsFit old → SumsFit new
fit_same old new same fit = record {
  points = λ k c. omega (arith, ap points_held (same k c), held_points old k c, held_points new k c, fit.points k c);
  times = λ k c. omega (arith, ap times_held (same k c), held_times old k c, held_times new k c, fit.times k c);
}

pub of_pair : (field : Row → ℕ) (k c : ℕ) (r : Row) → r.key ≡ k → r.code ≡ c → gain field k c r ≡ field r
of_pair field k c r key code = ap (λ b. cond b (field r) 0) ((λ i. is_pair (key i) (code i) k c) ∙ is_pair_itself k c)

pub of_other : (field : Row → ℕ) (k c : ℕ) (r : Row) → (r.key ≡ k → r.code ≡ c → ⊥) → gain field k c r ≡ 0
of_other field k c r other = by (is_row k c r) refl
  where
    by : (b : Bool) → is_row k c r ≡ b → gain field k c r ≡ 0
    by true e = let p = is_pair_same r.key r.code k c e in absurd (other p.0 p.1)
    by false e = ap (λ b. cond b (field r) 0) e
