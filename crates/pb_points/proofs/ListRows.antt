-- A list of rows as a tally.
use Rattle.std.proofs.Common.{zero, suc, ◌≡◌, ℕ, ◌<◌, ◌≤◌, ◌↔◌, Bool, true, false, cond, if◌then◌else◌, Option, Some, None, is_some, unwrap_or, option_map, List, [], ◌∷◌, ◌++◌, length, get_or, set, Contains, IsPermutation, IsSome, position, true≢false, refl, sym, ap, ◌∙◌, inl, inr, arith}
use Rattle.std.specs.List.{IsDistinct, find, list_any, position_or_len}
use Rattle.std.specs.Option.{option_or}
use Rattle.std.proofs.Math.ListN.{length-set}
use Rattle.std.proofs.lemmas.Bool.{cases_lt, lt-ltb}
use Rattle.std.proofs.lemmas.Bool.Decides.{nat_tests}
use Rattle.std.proofs.lemmas.List.{get_or_default}
use Rattle.std.proofs.lemmas.List.Folds.{find-append, find-set, find_past, list_any_none}
use Rattle.std.proofs.lemmas.List.Quantifiers.{position-Some}
use Rattle.std.proofs.lemmas.List.Sorted.{IsPermutation-sym, Contains-permutation}
use Rattle.std.proofs.lemmas.List.Sums.{fails_before_first, position_or_len_is}
use Rattle.std.proofs.lemmas.Map.Keys.{apart_from_distinct, IsDistinct-from_apart, IsDistinct-push}
use Rattle.pb_points.specs.declared.row.Row.{Row}
use Rattle.pb_points.specs.ListTally.{list_content, with_more}
use Rattle.pb_points.specs.Rows.{is_row, row_at, same_pair}
use Rattle.pb_points.specs.Tally.{MakesRow, AddsPly, held, held_of, is_pair, more}
use Rattle.pb_points.proofs.BagRows.{new_row}
use Rattle.pb_points.proofs.Pairs.{is_pair_same, is_pair_itself, same_equiv}

abbrev row_0 : Row
row_0 = new_row 0 0

-- ---- the first row that passes a test

module _ (p : Row → Bool) where
  find_first : (rows : List Row) (i : ℕ) → i < length rows → p (row_at rows i) ≡ true → ((j : ℕ) → j < i → p (row_at rows j) ≡ false) → find p rows ≡ Some (row_at rows i)
  find_first [] i lt here before = absurd (omega arith)
  find_first (r ∷ rows) zero lt here before = ap (λ b. cond b (Some r) (find p rows)) here
  find_first (r ∷ rows) (suc i) lt here before =
      ap (λ b. cond b (Some r) (find p rows)) (before 0 (omega arith)) ∙ find_first rows i (omega arith) here (λ j l. before (suc j) (omega arith))

  find_none : (rows : List Row) → list_any p rows ≡ false → find p rows ≡ None
  find_none [] e = refl
  find_none (r ∷ rows) e = grind (arith, nat_tests, find_none rows)

-- what the index that `position` gives says
pub record IsIndex (rows : List Row) (k c i : ℕ) : Type 0 where
  pub within : i < length rows
  pub here : is_row k c (row_at rows i) ≡ true
  pub before : (j : ℕ) → j < i → is_row k c (row_at rows j) ≡ false
  pub found : find (is_row k c) rows ≡ Some (row_at rows i)

pub is_index : (rows : List Row) (k c i : ℕ) → position (is_row k c) rows ≡ Some i → IsIndex rows k c i
is_index rows k c i e =
    let p = position-Some (is_row k c) rows i row_0 e in
    record { within = p.0; here = p.1; before = p.2; found = find_first (is_row k c) rows i p.0 p.1 p.2 }

-- an index that `position` doesn't give lies past the rows
pub absent_past : (rows : List Row) (k c : ℕ) → position (is_row k c) rows ≡ None → length rows ≤ position_or_len (is_row k c) rows
absent_past rows k c none = elim (cases_lt (position_or_len (is_row k c) rows) (length rows)) [
  | inl lt ↦
      let e : None ≡ Some (position_or_len (is_row k c) rows) = sym none ∙ ap (λ b. cond b (Some (position_or_len (is_row k c) rows)) None) (lt-ltb (position_or_len (is_row k c) rows) (length rows) lt) in
      cc
  | inr past ↦ past
]

pub absent : (rows : List Row) (k c : ℕ) → position (is_row k c) rows ≡ None → list_any (is_row k c) rows ≡ false
absent rows k c none = list_any_none (is_row k c) rows (λ j d l. fails_before_first (is_row k c) rows j d (omega (arith, l, absent_past rows k c none)))

pub absent_found : (rows : List Row) (k c : ℕ) → position (is_row k c) rows ≡ None → find (is_row k c) rows ≡ None
absent_found rows k c none = find_none (is_row k c) rows (absent rows k c none)

pub not_there : (rows : List Row) (k c : ℕ) → find (is_row k c) rows ≡ None → IsSome (list_content rows k c) → ⊥
not_there rows k c none h = by (find (is_row k c) rows) none h
  where
    by : (o : Option Row) → o ≡ None → IsSome (option_map held_of o) → ⊥
    by None e h = true≢false (sym h)
    by (Some r) e h = cc

-- ---- a row made

-- a look-up at a pair is one at an equal pair
at_same : {X : Type 0} (f : ℕ → ℕ → X) (key code k c : ℕ) → is_pair key code k c ≡ true → f key code ≡ f k c
at_same f key code k c e = let p = is_pair_same key code k c e in λ i. f (p.0 i) (p.1 i)

or_none : {X : Type 0} (o : Option X) → option_or o None ≡ o
or_none None = refl
or_none (Some x) = refl

pub makes_pushed : (rows : List Row) (key code : ℕ) → find (is_row key code) rows ≡ None → MakesRow (list_content rows) (list_content (rows ++ new_row key code ∷ [])) key code
makes_pushed rows key code none k c = ap (option_map held_of) (find-append (is_row k c) rows (new_row key code ∷ [])) ∙ by (is_pair key code k c) refl
  where
    by : (b : Bool) → is_pair key code k c ≡ b → option_map held_of (option_or (find (is_row k c) rows) (cond b (Some (new_row key code)) None)) ≡ (if b then Some (held (list_content rows) k c) else list_content rows k c)
    by true e =
        let gone = sym (at_same (λ k c. find (is_row k c) rows) key code k c e) ∙ none in
        ap (λ o. option_map held_of (option_or o (Some (new_row key code)))) gone ∙ ap (λ o. Some (unwrap_or (option_map held_of o) (held_of (new_row key code)))) (sym gone)
    by false e = ap (option_map held_of) (or_none (find (is_row k c) rows))

pub makes_none : (rows : List Row) (key code : ℕ) (r : Row) → find (is_row key code) rows ≡ Some r → MakesRow (list_content rows) (list_content rows) key code
makes_none rows key code r found k c = by (is_pair key code k c) refl
  where
    by : (b : Bool) → is_pair key code k c ≡ b → list_content rows k c ≡ (if b then Some (held (list_content rows) k c) else list_content rows k c)
    by true e =
        let there = sym (at_same (λ k c. find (is_row k c) rows) key code k c e) ∙ found in
        ap (option_map held_of) there ∙ ap (λ o. Some (unwrap_or (option_map held_of o) (held_of (new_row key code)))) (sym there)
    by false e = refl

pub IsDistinct-pushed : (rows : List Row) (key code : ℕ) → IsDistinct same_pair rows → position (is_row key code) rows ≡ None → IsDistinct same_pair (rows ++ new_row key code ∷ [])
IsDistinct-pushed rows key code old none = IsDistinct-push same_equiv rows (new_row key code) old (absent rows key code none)

-- ---- points added

pub adds_set : (rows : List Row) (key code i n : ℕ) → IsIndex rows key code i → AddsPly (list_content rows) (list_content (set rows i (with_more n (row_at rows i)))) key code n
adds_set rows key code i n h k c = by (is_pair key code k c) refl
  where
    r : Row
    r = row_at rows i

    index : i ≡ position_or_len (is_row key code) rows
    index = sym (position_or_len_is (is_row key code) rows i row_0 (omega (arith, h.within)) h.before (λ _. h.here))

    by : (b : Bool) → is_pair key code k c ≡ b → list_content (set rows i (with_more n r)) k c ≡ (if b then Some (more n (held (list_content rows) k c)) else list_content rows k c)
    by true e =
        sym (at_same (list_content (set rows i (with_more n r))) key code k c e)
        ∙ ap (option_map held_of) (find-set (is_row key code) rows i (with_more n r) index h.within h.here)
        ∙ ap (λ o. Some (more n (unwrap_or (option_map held_of o) (held_of (new_row key code))))) (sym h.found)
        ∙ ap (λ m. Some (more n m)) (at_same (held (list_content rows)) key code k c e)
    by false e =
        let own = is_pair_same r.key r.code key code h.here in
        let other : is_row k c r ≡ false = (λ j. is_pair (own.0 j) (own.1 j) k c) ∙ e in
        ap (option_map held_of) (find_past (is_row k c) rows i (with_more n r) row_0 other other)

pub same_keys : (rows : List Row) (i n j : ℕ) (d : Row) → i < length rows → ((get_or (set rows i (with_more n (row_at rows i))) j d).key ≡ (get_or rows j d).key) × ((get_or (set rows i (with_more n (row_at rows i))) j d).code ≡ (get_or rows j d).code)
same_keys [] i n j d lt = absurd (omega arith)
same_keys (r ∷ rows) zero n zero d lt = (refl, refl)
same_keys (r ∷ rows) zero n (suc j) d lt = (refl, refl)
same_keys (r ∷ rows) (suc i) n zero d lt = (refl, refl)
same_keys (r ∷ rows) (suc i) n (suc j) d lt = same_keys rows i n j d (omega arith)

pub IsDistinct-more : (rows : List Row) (i n : ℕ) → i < length rows → IsDistinct same_pair rows → IsDistinct same_pair (set rows i (with_more n (row_at rows i)))
IsDistinct-more rows i n lt old = IsDistinct-from_apart same_pair (set rows i (with_more n (row_at rows i))) (λ a b d l fits.
    let x = same_keys rows i n a d lt in
    let y = same_keys rows i n b d lt in
    (λ t. is_pair (y.0 t) (y.1 t) (x.0 t) (x.1 t)) ∙ apart_from_distinct same_pair rows a b d old l (omega (arith, fits, length-set rows i (with_more n (row_at rows i)))))

-- ---- the rows listed

row_there : (rows : List Row) → IsDistinct same_pair rows → (r : Row) → Contains rows r → list_content rows r.key r.code ≡ Some (held_of r)
row_there rows distinct r h =
    let here : row_at rows h.0 ≡ r = get_or_default rows h.0 row_0 r h.1 ∙ h.2 in
    let own : is_row r.key r.code (row_at rows h.0) ≡ true = ap (is_row r.key r.code) here ∙ is_pair_itself r.key r.code in
    ap (option_map held_of) (find_first (is_row r.key r.code) rows h.0 h.1 own (λ j l.
    ap (λ (x : Row). is_row x.key x.code (row_at rows j)) (sym here) ∙ same_equiv.symm (row_at rows h.0) (row_at rows j) ∙ apart_from_distinct same_pair rows j h.0 row_0 distinct l h.1))
    ∙ ap (λ x. Some (held_of x)) here

content_row : (rows : List Row) (r : Row) → list_content rows r.key r.code ≡ Some (held_of r) → Contains rows r
content_row [] r e = cc
content_row (x ∷ rows) r e = by (is_row r.key r.code x) refl (content_row rows r)
  where
    by : (b : Bool) → is_row r.key r.code x ≡ b → (list_content rows r.key r.code ≡ Some (held_of r) → Contains rows r) → Contains (x ∷ rows) r
    by true t rest =
        let p = is_pair_same x.key x.code r.key r.code t in
        let some : Some (held_of x) ≡ Some (held_of r) = sym (ap (λ b. option_map held_of (cond b (Some x) (find (is_row r.key r.code) rows))) t) ∙ e in
        let points : x.points ≡ r.points = ap (λ o. (unwrap_or o (held_of x)).points) some in
        let times : x.times ≡ r.times = ap (λ o. (unwrap_or o (held_of x)).times) some in
        (0, omega arith, λ i. record { key = p.0 i; code = p.1 i; points = points i; times = times i })
    by false t rest =
        let later = rest (sym (ap (λ b. option_map held_of (cond b (Some x) (find (is_row r.key r.code) rows))) t) ∙ e) in
        (suc later.0, omega (arith, later.1), later.2)

pub rows_each : (rows sorted : List Row) → IsDistinct same_pair rows → IsPermutation rows sorted → (r : Row) → Contains sorted r ↔ (list_content rows r.key r.code ≡ Some (held_of r))
rows_each rows sorted distinct perm r = (
  (λ h. row_there rows distinct r (Contains-permutation sorted rows r (IsPermutation-sym rows sorted perm) h)),
  (λ e. Contains-permutation rows sorted r perm (content_row rows r e)),
)

-- ---- what an `Option` of an index says

pub none_of : {X : Type 0} (o : Option X) → is_some o ≡ false → o ≡ None
none_of None e = refl
none_of (Some x) e = cc

pub index_there : (rows : List Row) (k c : ℕ) (o : Option ℕ) → o ≡ position (is_row k c) rows → is_some o ≡ true → (i : ℕ) × IsIndex rows k c i
index_there rows k c None e some = cc
index_there rows k c (Some i) e some = (i, is_index rows k c i (sym e))
