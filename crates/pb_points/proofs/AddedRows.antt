-- Ordered rows added up, one for each key and code.
use Rattle.std.proofs.Common.{◌≡◌, ℕ, ◌+◌, ◌<◌, ◌≤◌, ◌^◌, zero, suc, Bool, true, false, cond, if◌then◌else◌, Some, None, List, [], ◌∷◌, ◌++◌, length, take, drop, set, get_or, All, AllPairs, Contains, ◌↔◌, refl, sym, ap, ◌∙◌, inl, inr, arith, subst}
use Rattle.std.specs.Prelude.{nat_lt, sum_by}
use Rattle.std.proofs.lemmas.Bool.{cases_lt}
use Rattle.std.proofs.lemmas.Bool.Decides.{nat_tests}
use Rattle.std.proofs.lemmas.List.Sums.{sum_by-cons, sum_by-drop_more, sum_by_push}
use Rattle.std.proofs.lemmas.List.Elements.{All-push, All-weaker}
use Rattle.std.proofs.lemmas.List.{drop-drop, drop-set-lt, drop_all, get_or-drop, get_or-set_same, get_or_default, length-set, length-take, nil_from_length, set-get_or, take-set, take_more}
use Rattle.std.proofs.lemmas.List.Quantifiers.{all_pairs_push}
use Rattle.pb_points.specs.declared.row.Row.{Row}
use Rattle.pb_points.specs.Bag.{HoldsSame, IsAddedUp, SumsFit, bag_content, count_of, gain, points_of, times_of, total}
use Rattle.pb_points.specs.Rows.{IsBelow, IsUpTo, is_row}
use Rattle.pb_points.specs.Tally.{Held, held_of, is_pair}
use Rattle.pb_points.proofs.Pairs.{is_pair_same, is_pair_itself}
use Rattle.pb_points.proofs.BagRows.{gain_more, new_row, of_other, of_pair, of_sums, one, one_of, points_held, row_at, times_held, with_more}

-- rows up to the one at i are added up into `all` and the last one, `sum`
pub record Adding (rows all : List Row) (sum : Row) (i : ℕ) : Type 0 where
  pub rise : AllPairs IsBelow all
  pub below : All (λ r. IsBelow r sum) all
  pub key : (row_at rows i).key ≡ sum.key
  pub code : (row_at rows i).code ≡ sum.code
  pub points : (k c : ℕ) → points_of all k c + gain (λ r. r.points) k c sum + points_of (drop (i + 1) rows) k c ≡ points_of rows k c
  pub times : (k c : ℕ) → times_of all k c + gain (λ r. r.times) k c sum + times_of (drop (i + 1) rows) k c ≡ times_of rows k c
  pub some : (k c : ℕ) → nat_lt 0 (count_of all k c + one k c sum + count_of (drop (i + 1) rows) k c) ≡ nat_lt 0 (count_of rows k c)

adding_starts : (rows : List Row) → 0 < length rows → Adding rows [] (row_at rows 0) 0
adding_starts rows some = record {
  rise = λ i j d lt within. absurd (omega arith);
  below = λ j d lt. absurd (omega arith);
  key = refl;
  code = refl;
  points = λ k c. omega (arith, sum_by-drop_more (gain (λ r. r.points) k c) rows 0 (new_row 0 0) some);
  times = λ k c. omega (arith, sum_by-drop_more (gain (λ r. r.times) k c) rows 0 (new_row 0 0) some);
  some = λ k c.
      let all : count_of [] k c + one k c (row_at rows 0) + count_of (drop (0 + 1) rows) k c ≡ count_of rows k c = omega (arith, sum_by-drop_more (one k c) rows 0 (new_row 0 0) some) in
      ap (nat_lt 0) all;
}

-- a row of the same key and code goes into the sum
pub gain_joined : (field : Row → ℕ) (k c : ℕ) (s r : Row) → r.key ≡ s.key → r.code ≡ s.code → field (with_more r.points r.times s) ≡ field s + field r
    → gain field k c (with_more r.points r.times s) ≡ gain field k c s + gain field k c r
gain_joined field k c s r key code is =
    let test : is_row k c r ≡ is_row k c s = λ i. is_pair (key i) (code i) k c in
    omega (arith, gain_more field k c (field r) s (with_more r.points r.times s) refl is, ap (λ b. cond b (field r) 0) test)

pub one_joined : (k c : ℕ) (s r : Row) → r.key ≡ s.key → r.code ≡ s.code → one k c r ≡ one k c s
one_joined k c s r key code = λ i. cond (is_pair (key i) (code i) k c) 1 0

some_joined : (a n m : ℕ) → nat_lt 0 (a + n + m) ≡ nat_lt 0 (a + n + (n + m))
some_joined a n m = grind (arith, nat_tests)

adding_joins : (rows all : List Row) (sum : Row) (i : ℕ) → Adding rows all sum i → i + 1 < length rows
    → (row_at rows (i + 1)).key ≡ sum.key → (row_at rows (i + 1)).code ≡ sum.code → Adding rows all (with_more (row_at rows (i + 1)).points (row_at rows (i + 1)).times sum) (i + 1)
adding_joins rows all sum i a lt key code =
    let row = row_at rows (i + 1) in
    record {
      rise = a.rise;
      below = a.below;
      key = key;
      code = code;
      points = λ k c. omega (arith, a.points k c, sum_by-drop_more (gain (λ r. r.points) k c) rows (i + 1) (new_row 0 0) lt, gain_joined (λ r. r.points) k c sum row key code refl);
      times = λ k c. omega (arith, a.times k c, sum_by-drop_more (gain (λ r. r.times) k c) rows (i + 1) (new_row 0 0) lt, gain_joined (λ r. r.times) k c sum row key code refl);
      some = λ k c.
          let more : count_of (drop (i + 1) rows) k c ≡ one k c sum + count_of (drop (i + 1 + 1) rows) k c =
          sum_by-drop_more (one k c) rows (i + 1) (new_row 0 0) lt ∙ ap (λ n. n + count_of (drop (i + 1 + 1) rows) k c) (one_joined k c sum row key code) in
          some_joined (count_of all k c) (one k c sum) (count_of (drop (i + 1 + 1) rows) k c)
          ∙ ap (λ n. nat_lt 0 (count_of all k c + one k c sum + n)) (sym more) ∙ a.some k c;
    }

-- a row of another key or code ends the sum
below_next : (r s : Row) → IsUpTo r s → (s.key ≡ r.key → s.code ≡ r.code → ⊥) → IsBelow r s
below_next r s up other = elim up [ inl below ↦ below | inr same ↦ absurd (other (sym same.0) (sym same.1)) ]

pub below_trans : (r s t : Row) → IsBelow r s → IsBelow s t → IsBelow r t
below_trans r s t p q = elim p [
  | inl a ↦ elim q [ inl b ↦ inl (omega arith) | inr b ↦ inl (omega (arith, b.0)) ]
  | inr a ↦ elim q [ inl b ↦ inl (omega (arith, a.0)) | inr b ↦ inr (a.0 ∙ b.0, omega (arith, a.1, b.1)) ]
]

below_same : (r s t : Row) → r.key ≡ s.key → r.code ≡ s.code → IsBelow r t → IsBelow s t
below_same r s t key code p = elim p [ inl a ↦ inl (omega (arith, key)) | inr a ↦ inr (sym key ∙ a.0, omega (arith, a.1, code)) ]

adding_pushes : (rows all : List Row) (sum : Row) (i : ℕ) → AllPairs IsUpTo rows → Adding rows all sum i → i + 1 < length rows
    → ((row_at rows (i + 1)).key ≡ sum.key → (row_at rows (i + 1)).code ≡ sum.code → ⊥) → Adding rows (all ++ sum ∷ []) (row_at rows (i + 1)) (i + 1)
adding_pushes rows all sum i ordered a lt other =
    let row = row_at rows (i + 1) in
    let far : IsBelow sum row = below_same (row_at rows i) sum row a.key a.code
    (below_next (row_at rows i) row (ordered i (i + 1) (new_row 0 0) (omega arith) lt) (λ key code. other (key ∙ a.key) (code ∙ a.code))) in
    record {
      rise = all_pairs_push IsBelow all sum a.rise a.below;
      below = All-push (λ r. IsBelow r row) all sum (All-weaker (λ r. IsBelow r sum) (λ r. IsBelow r row) (λ r b. below_trans r sum row b far) all a.below) far;
      key = refl;
      code = refl;
      points = λ k c. omega (arith, a.points k c, sum_by-drop_more (gain (λ r. r.points) k c) rows (i + 1) (new_row 0 0) lt, sum_by_push (gain (λ r. r.points) k c) all sum);
      times = λ k c. omega (arith, a.times k c, sum_by-drop_more (gain (λ r. r.times) k c) rows (i + 1) (new_row 0 0) lt, sum_by_push (gain (λ r. r.times) k c) all sum);
      some = λ k c.
          let more : count_of (all ++ sum ∷ []) k c + one k c row + count_of (drop (i + 1 + 1) rows) k c ≡ count_of all k c + one k c sum + count_of (drop (i + 1) rows) k c =
          omega (arith, sum_by-drop_more (one k c) rows (i + 1) (new_row 0 0) lt, sum_by_push (one k c) all sum) in
          ap (nat_lt 0) more ∙ a.some k c;
    }

-- the sum of a field at its own key and code
own_gain : (field : Row → ℕ) (s : Row) → gain field s.key s.code s ≡ field s
own_gain field s = of_pair field s.key s.code s refl refl

-- ---- rows added up where they stand

-- the rows were the `old` ones: of these, n are added up before the index `last` and at it, and the
-- others stand where they stood
pub record InPlace (old new : List Row) (last n : ℕ) : Type 0 where
  pub done : ℕ
  pub next : n ≡ done + 1
  pub before : last < n
  pub within : n ≤ length new
  pub long : length new ≡ length old
  pub others : drop n new ≡ drop n old
  pub adding : Adding old (take last new) (row_at new last) done

pub in_place_starts : (rows : List Row) → 0 < length rows → InPlace rows rows 0 1
in_place_starts rows some = record {
  done = 0;
  next = refl;
  before = omega arith;
  within = some;
  long = refl;
  others = refl;
  adding = adding_starts rows some;
}

-- the row that comes next is that of the old ones
next_row : (old new : List Row) (last n : ℕ) (p : InPlace old new last n) → row_at old (p.done + 1) ≡ row_at new n
next_row old new last n p = ap (row_at old) (sym p.next) ∙ sym (front old) ∙ ap (λ l. row_at l 0) (sym p.others) ∙ front new
  where
    front : (rows : List Row) → row_at (drop n rows) 0 ≡ row_at rows n
    front rows = get_or-drop n rows 0 (new_row 0 0) ∙ ap (row_at rows) (omega arith)

-- a row is written among those that are done, and one more is done
written : (old new : List Row) (last n at : ℕ) (row : Row) → InPlace old new last n → n < length new → at ≤ n
    → (length (set new at row) ≡ length old) × (drop (n + 1) (set new at row) ≡ drop (n + 1) old)
written old new last n at row p lt low = (
  length-set new at row ∙ p.long,
  drop-set-lt (n + 1) new at row (omega arith) ∙ sym (drop-drop 1 n new) ∙ ap (drop 1) p.others ∙ drop-drop 1 n old,
)

-- a row is written where it stands
pub written_again : (rows : List Row) (i : ℕ) (row : Row) → row ≡ get_or rows i row → set rows i row ≡ rows
written_again rows i row here = ap (set rows i) here ∙ set-get_or rows i row

module _ (old new : List Row) (last n : ℕ) (p : InPlace old new last n) (lt : n < length new) (row sum : Row) (here : row ≡ get_or new n row) (there : sum ≡ get_or new last sum) where
  next : row_at old (p.done + 1) ≡ row
  next = next_row old new last n p ∙ sym (here ∙ get_or_default new n row (new_row 0 0) lt)

  last_is : row_at new last ≡ sum
  last_is = sym (there ∙ get_or_default new last sum (new_row 0 0) (omega (arith, p.before)))

  so_far : Adding old (take last new) sum p.done
  so_far = subst (λ s. Adding old (take last new) s p.done) last_is p.adding

  within : p.done + 1 < length old
  within = omega (arith, p.next, p.long)

  joined : row.key ≡ sum.key → row.code ≡ sum.code → Adding old (take last new) (with_more row.points row.times sum) (p.done + 1)
  joined key code = subst (λ (r : Row). Adding old (take last new) (with_more r.points r.times sum) (p.done + 1)) next
      (adding_joins old (take last new) sum p.done so_far within (ap (λ (r : Row). r.key) next ∙ key) (ap (λ (r : Row). r.code) next ∙ code))

  -- the row goes into the sum
  pub in_place_joins : row.key ≡ sum.key → row.code ≡ sum.code → InPlace old (set new last (with_more row.points row.times sum)) last (n + 1)
  in_place_joins key code =
      let more = with_more row.points row.times sum in
      let kept = written old new last n last more p lt (omega (arith, p.before)) in
      record {
        done = p.done + 1;
        next = omega (arith, p.next);
        before = omega (arith, p.before);
        within = omega (arith, length-set new last more);
        long = kept.0;
        others = kept.1;
        adding = rw (take-set new last more, get_or-set_same new last more (new_row 0 0) (omega (arith, p.before))) (joined key code);
      }

  -- the sums are within bounds
  pub in_place_fits : SumsFit old → row.key ≡ sum.key → row.code ≡ sum.code → (sum.points + row.points ≤ 2 ^ 63) × (sum.times + row.times ≤ 2 ^ 63)
  in_place_fits fit key code =
      let joins = joined key code in
      let more : Row = with_more row.points row.times sum in (
        omega (arith, joins.points sum.key sum.code, own_gain (λ r. r.points) more, fit.points sum.key sum.code),
        omega (arith, joins.times sum.key sum.code, own_gain (λ r. r.times) more, fit.times sum.key sum.code),
      )

  -- the row is the next sum
  pub in_place_goes_on : AllPairs IsUpTo old → (row.key ≡ sum.key → row.code ≡ sum.code → ⊥) → InPlace old (set new (last + 1) row) (last + 1) (n + 1)
  in_place_goes_on ordered other =
      let kept = written old new last n (last + 1) row p lt (omega (arith, p.before)) in
      let pushes = adding_pushes old (take last new) sum p.done ordered so_far within
      (λ key code. other (ap (λ (r : Row). r.key) (sym next) ∙ key) (ap (λ (r : Row). r.code) (sym next) ∙ code)) in
      record {
        done = p.done + 1;
        next = omega (arith, p.next);
        before = omega (arith, p.before);
        within = omega (arith, length-set new (last + 1) row);
        long = kept.0;
        others = kept.1;
        adding = rw (take-set new (last + 1) row, get_or-set_same new (last + 1) row (new_row 0 0) (omega (arith, p.before)), take_more new last (new_row 0 0) (omega (arith, p.before)), last_is)
            (subst (λ (r : Row). Adding old (take last new ++ sum ∷ []) r (p.done + 1)) next pushes);
      }

-- all rows are added up
added_same : (rows all : List Row) (sum : Row) (i : ℕ) → Adding rows all sum i → length rows ≤ i + 1 → HoldsSame rows (all ++ sum ∷ [])
added_same rows all sum i a end k c =
    let none : drop (i + 1) rows ≡ [] = drop_all (i + 1) rows end in
    let points : points_of (all ++ sum ∷ []) k c ≡ points_of rows k c = omega (arith, a.points k c, sum_by_push (gain (λ r. r.points) k c) all sum, ap (λ l. points_of l k c) none) in
    let times : times_of (all ++ sum ∷ []) k c ≡ times_of rows k c = omega (arith, a.times k c, sum_by_push (gain (λ r. r.times) k c) all sum, ap (λ l. times_of l k c) none) in
    let count : count_of (all ++ sum ∷ []) k c ≡ count_of all k c + one k c sum + count_of (drop (i + 1) rows) k c = omega (arith, sum_by_push (one k c) all sum, ap (λ l. count_of l k c) none) in
    (λ i. of_sums (count_of (all ++ sum ∷ []) k c) (points i) (times i))
    ∙ ap (λ b. if b then Some (record { points = points_of rows k c; times = times_of rows k c }) else None) (ap (nat_lt 0) count ∙ a.some k c)

pub in_place_ends : (old new : List Row) (last n : ℕ) → length new ≡ length old → (0 < length old → InPlace old new last n) → length new ≤ n → IsAddedUp old (take (last + 1) new)
in_place_ends old new last n long index end = elim (cases_lt 0 (length old)) [
  | inl some ↦
      let p = index some in
      let all = take last new in
      let sum = row_at new last in
      rw (take_more new last (new_row 0 0) (omega (arith, p.before, p.within)))
      (record { rise = all_pairs_push IsBelow all sum p.adding.rise p.adding.below; same = added_same old all sum p.done p.adding (omega (arith, p.next, p.long)) })
  | inr none ↦
      let no_old : old ≡ [] = nil_from_length old (omega arith) in
      let no_new : take (last + 1) new ≡ [] = nil_from_length (take (last + 1) new) (omega (arith, length-take (last + 1) new)) in
      rw (no_old, no_new) (record { rise = λ i j d lt within. absurd (omega arith); same = λ k c. refl })
]

-- ---- the rows listed

-- where something is held there is a row
pub some_counted : (rows : List Row) (k c : ℕ) (h : Held) → bag_content rows k c ≡ Some h → 0 < count_of rows k c
some_counted rows k c h e = by (nat_lt 0 (count_of rows k c)) refl
  where
    by : (b : Bool) → nat_lt 0 (count_of rows k c) ≡ b → 0 < count_of rows k c
    by true t = grind (arith, nat_tests)
    by false t =
        let none : bag_content rows k c ≡ None = ap (λ b. cond b (Some (record { points = points_of rows k c; times = times_of rows k c })) None) t in
        let other : Some h ≡ None = sym e ∙ none in
        cc

pub sum_none : (f : Row → ℕ) (rows : List Row) → ((j : ℕ) → j < length rows → f (row_at rows j) ≡ 0) → sum_by f rows ≡ 0
sum_none f [] others = refl
sum_none f (r ∷ rows) others = omega (arith, sum_by-cons f r rows, others 0 (omega arith), sum_none f rows (λ j lt. others (suc j) (omega arith)))

-- a sum to which one index gives
sum_at : (f : Row → ℕ) (rows : List Row) (i : ℕ) → i < length rows → ((j : ℕ) → j < length rows → (j ≡ i → ⊥) → f (row_at rows j) ≡ 0) → sum_by f rows ≡ f (row_at rows i)
sum_at f [] i lt others = absurd (omega arith)
sum_at f (r ∷ rows) zero lt others =
    omega (arith, sum_by-cons f r rows, sum_none f rows (λ j lt. others (suc j) (omega arith) (λ e. omega (arith, e))))
sum_at f (r ∷ rows) (suc i) lt others =
    omega (
      arith,
      sum_by-cons f r rows,
      others 0 (omega arith) (λ e. omega (arith, e)),
      sum_at f rows i (omega arith) (λ j lt other. others (suc j) (omega arith) (λ e. other (omega (arith, e)))),
    )

-- in rows that rise, only one is of a key and a code
pub other_row : (rows : List Row) (i j : ℕ) → AllPairs IsBelow rows → i < length rows → j < length rows → (j ≡ i → ⊥)
    → (row_at rows j).key ≡ (row_at rows i).key → (row_at rows j).code ≡ (row_at rows i).code → ⊥
other_row rows i j rise lt within other key code = elim (cases_lt i j) [
  | inl up ↦ apart (row_at rows i) (row_at rows j) (rise i j (new_row 0 0) up within) (sym key) (sym code)
  | inr le ↦ elim (cases_lt j i) [
    | inl down ↦ apart (row_at rows j) (row_at rows i) (rise j i (new_row 0 0) down lt) key code
    | inr ge ↦ other (omega arith)
  ]
]
  where
    apart : (r s : Row) → IsBelow r s → r.key ≡ s.key → r.code ≡ s.code → ⊥
    apart r s p key code = elim p [ inl a ↦ omega (arith, a, key) | inr a ↦ omega (arith, a.1, code) ]

pub one_other : (k c : ℕ) (r : Row) → (r.key ≡ k → r.code ≡ c → ⊥) → one k c r ≡ 0
one_other k c r other = by (is_row k c r) refl
  where
    by : (b : Bool) → is_row k c r ≡ b → one k c r ≡ 0
    by true e = let p = is_pair_same r.key r.code k c e in absurd (other p.0 p.1)
    by false e = ap (λ b. cond b 1 0) e

-- what rising rows hold at a row's key and code is that row
listed : (rows : List Row) (i : ℕ) → AllPairs IsBelow rows → i < length rows → bag_content rows (row_at rows i).key (row_at rows i).code ≡ Some (held_of (row_at rows i))
listed rows i rise lt =
    let r = row_at rows i in
    let count : count_of rows r.key r.code ≡ 1 =
    sum_at (one r.key r.code) rows i lt (λ j within other. one_other r.key r.code (row_at rows j) (other_row rows i j rise lt within other))
    ∙ one_of r.key r.code r (is_pair_itself r.key r.code) in
    let points = only (λ r. r.points) in
    let times = only (λ r. r.times) in
    ap (λ n. of_sums n (points_of rows r.key r.code) (times_of rows r.key r.code)) count ∙ (λ i. Some (record { points = points i; times = times i }))
  where
    only : (field : Row → ℕ) → total field rows (row_at rows i).key (row_at rows i).code ≡ field (row_at rows i)
    only field =
        let r = row_at rows i in
        sum_at (gain field r.key r.code) rows i lt (λ j within other. of_other field r.key r.code (row_at rows j) (other_row rows i j rise lt within other))
        ∙ of_pair field r.key r.code r refl refl

-- a row that is counted is found
pub found : (rows : List Row) (k c : ℕ) → 0 < count_of rows k c → (i : ℕ) × (i < length rows) × (is_row k c (row_at rows i) ≡ true)
found [] k c some = absurd (omega arith)
found (r ∷ rows) k c some = by (found rows k c) (is_row k c r) refl
  where
    by : (0 < count_of rows k c → (i : ℕ) × (i < length rows) × (is_row k c (row_at rows i) ≡ true)) → (b : Bool) → is_row k c r ≡ b
        → (i : ℕ) × (i < length (r ∷ rows)) × (is_row k c (row_at (r ∷ rows) i) ≡ true)
    by rest true e = (0, omega arith, e)
    by rest false e =
        let none : one k c r ≡ 0 = ap (λ b. cond b 1 0) e in
        let next = rest (omega (arith, sum_by-cons (one k c) r rows, none)) in
        (suc next.0, omega (arith, next.1), next.2)

pub added_each : (rows sums : List Row) → IsAddedUp rows sums → (r : Row) → Contains sums r ↔ (bag_content rows r.key r.code ≡ Some (held_of r))
added_each rows sums added r = (to, from)
  where
    to : Contains sums r → bag_content rows r.key r.code ≡ Some (held_of r)
    to there =
        let is : row_at sums there.0 ≡ r = get_or_default sums there.0 (new_row 0 0) r there.1 ∙ there.2 in
        sym (added.same r.key r.code) ∙ subst (λ (s : Row). bag_content sums s.key s.code ≡ Some (held_of s)) is (listed sums there.0 added.rise there.1)

    from : bag_content rows r.key r.code ≡ Some (held_of r) → Contains sums r
    from e =
        let here : bag_content sums r.key r.code ≡ Some (held_of r) = added.same r.key r.code ∙ e in
        let index = found sums r.key r.code (some_counted sums r.key r.code (held_of r) here) in
        let s = row_at sums index.0 in
        let p = is_pair_same s.key s.code r.key r.code index.2 in
        let same : Some (held_of s) ≡ Some (held_of r) = sym (listed sums index.0 added.rise index.1) ∙ (λ i. bag_content sums (p.0 i) (p.1 i)) ∙ here in
        let points : s.points ≡ r.points = ap points_held same in
        let times : s.times ≡ r.times = ap times_held same in
        (index.0, index.1, get_or_default sums index.0 r (new_row 0 0) index.1 ∙ (λ i. record { key = p.0 i; code = p.1 i; points = points i; times = times i }))
