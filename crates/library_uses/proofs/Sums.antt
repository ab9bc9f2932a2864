-- Sums in a map, by keys with codes.
use Rattle.std.proofs.Common.{◌≡◌, ℕ, ◌<◌, Bool, true, false, cond, if◌then◌else◌, Option, Some, None, IsSome, AllPairs, Contains, ◌↔◌, length, map, get_or, refl, ap, sym, subst, ◌∙◌, arith, inl, inr}
use Rattle.std.specs.BTreeMap.{BTreeMap, IsOrdered, Updates, get, is_at}
use Rattle.std.specs.declared.cmp.Ordering.TheVariants.{Less}
use Rattle.std.specs.Map.{keys_of}
use Rattle.std.specs.Option.{option_map, unwrap_or}
use Rattle.std.specs.Ordering.{nat_cmp}
use Rattle.std.proofs.lemmas.Bool.{cases_lt, cases_order, false≢true}
use Rattle.std.proofs.lemmas.Bool.Decides.{nat_tests}
use Rattle.std.proofs.lemmas.List.{get_or-map, length-map}
use Rattle.std.proofs.lemmas.Map.Entries.{length-keys_of}
use Rattle.std.proofs.lemmas.Map.Keys.{Less-from_sorted}
use Rattle.std.proofs.lemmas.Map.Lookups.{exact_pairs, exact_unsigned}
use Rattle.std.proofs.lemmas.Map.Views.{btree_map_get_iff}
use Rattle.std.proofs.lemmas.Option.{none-some, same_Some}
use Rattle.pb_points.proofs.Pairs.{is_pair_same, pair_cmp, pair_total}
use Rattle.library_uses.specs.declared.tallies.Sum.{Sum}
use Rattle.pb_points.specs.declared.row.Row.{Row}
use Rattle.pb_points.specs.Rows.{IsBelow}
use Rattle.library_uses.specs.Sums.{row_of, sum_held}
use Rattle.pb_points.specs.Tally.{Content, Held, MakesRow, held, held_of, is_pair, nothing}

abbrev pub content : BTreeMap (ℕ × ℕ) Sum → Content
content m k c = option_map sum_held (get pair_cmp m (k, c))

at_pair : (key code k c : ℕ) → is_at (pair_cmp (key, code)) (k, c) ≡ is_pair key code k c
at_pair key code k c = grind (arith, nat_tests)

held_in : (b : Bool) (s : Sum) (o : Option Sum) → option_map sum_held (cond b (Some s) o) ≡ (if b then Some (sum_held s) else option_map sum_held o)
held_in true s o = refl
held_in false s o = refl

in_place : (b : Bool) (x y z : Option Held) → (b ≡ true → x ≡ y) → (if b then x else z) ≡ (if b then y else z)
in_place true x y z same = same refl
in_place false x y z same = refl

-- the sum of one pair became another, which holds g of what was held
pub changed : (m n : BTreeMap (ℕ × ℕ) Sum) (key code : ℕ) (s : Sum) (g : Held → Held) → sum_held s ≡ g (held (content m) key code) →
    Updates pair_cmp m n (key, code) (Some s) →
    (k c : ℕ) → content n k c ≡ (if is_pair key code k c then Some (g (held (content m) k c)) else content m k c)
changed m n key code s g is updates k c =
    ap (option_map sum_held) (updates.0 (k, c))
    ∙ ap (λ b. option_map sum_held (cond b (Some s) (get pair_cmp m (k, c)))) (at_pair key code k c)
    ∙ held_in (is_pair key code k c) s (get pair_cmp m (k, c))
    ∙ in_place (is_pair key code k c) _ _ (content m k c) (λ h.
    let same = is_pair_same key code k c h in
    ap Some (is ∙ ap (λ (x : ℕ × ℕ). g (held (content m) x.0 x.1)) (ap (λ k'. (k', code)) same.0 ∙ ap (λ c'. (k, c')) same.1)))

some_is : (o : Option Held) (h : Held) → IsSome o → o ≡ Some (unwrap_or o h)
some_is (Some x) h some = refl
some_is None h some = absurd (false≢true some)

-- a row that is there need not be made
pub kept : (m : BTreeMap (ℕ × ℕ) Sum) (key code : ℕ) → IsSome (content m key code) → MakesRow (content m) (content m) key code
kept m key code some k c =
    either (is_pair key code k c) (content m k c)
    ∙ in_place (is_pair key code k c) _ _ (content m k c) (λ h.
    let same = is_pair_same key code k c h in
    some_is (content m k c) nothing (subst (λ (x : ℕ × ℕ). IsSome (content m x.0 x.1)) (ap (λ k'. (k', code)) same.0 ∙ ap (λ c'. (k, c')) same.1) some))
  where
    either : (b : Bool) (o : Option Held) → o ≡ (if b then o else o)
    either true o = refl
    either false o = refl

-- ---- the rows

rises : (r s : Row) → pair_cmp (r.key, r.code) (s.key, s.code) ≡ Less → IsBelow r s
rises r s less = elim (cases_order r.key s.key) [
  | inl one ↦ elim (cases_lt r.code s.code) [
    | inl low ↦ inr (one, low)
    | inr high ↦ absurd (grind (arith, nat_tests, less, one, high))
  ]
  | inr (inl under) ↦ inl under
  | inr (inr over) ↦ absurd (grind (arith, nat_tests, less, over))
]

abbrev entry_of : Row → (ℕ × ℕ) × Sum
entry_of r = ((r.key, r.code), record { points = r.points; times = r.times })

pub rows_rise : (m : BTreeMap (ℕ × ℕ) Sum) → IsOrdered pair_cmp m → AllPairs IsBelow (map row_of m.entries)
rows_rise m ordered i j d lt within =
    let many : length (map row_of m.entries) ≡ length m.entries = length-map m.entries row_of in
    let e = entry_of d in
    let key : (n : ℕ) → n < length m.entries → get_or (keys_of m.entries) n e.0 ≡ (get_or m.entries n e).0 = λ n fits. get_or-map (λ (x : (ℕ × ℕ) × Sum). x.0) m.entries n e e.0 fits in
    let row : (n : ℕ) → n < length m.entries → row_of (get_or m.entries n e) ≡ get_or (map row_of m.entries) n d = λ n fits. sym (get_or-map row_of m.entries n e d fits) in
    let less = Less-from_sorted pair_cmp (keys_of m.entries) i j e.0 ordered lt (omega (arith, many, length-keys_of m.entries, within)) in
    let far : pair_cmp (get_or m.entries i e).0 (get_or m.entries j e).0 ≡ Less = subst (λ k. pair_cmp (get_or m.entries i e).0 k ≡ Less) (key j (omega (arith, many, within))) (subst (λ k. pair_cmp k (get_or (keys_of m.entries) j e.0) ≡ Less) (key i (omega (arith, many, within, lt))) less) in
    subst (λ r. IsBelow r (get_or (map row_of m.entries) j d)) (row i (omega (arith, many, within, lt)))
    (subst (IsBelow (row_of (get_or m.entries i e))) (row j (omega (arith, many, within))) (rises (row_of (get_or m.entries i e)) (row_of (get_or m.entries j e)) far))

holds : (r : Row) (o : Option Sum) → option_map sum_held o ≡ Some (held_of r) → o ≡ Some (entry_of r).1
holds r None is = absurd (none-some _ is)
holds r (Some s) is = ap Some (ap (λ (h : Held). record { points = h.points; times = h.times }) (same_Some _ _ is))

pub each_row : (m : BTreeMap (ℕ × ℕ) Sum) → IsOrdered pair_cmp m → (r : Row) → Contains (map row_of m.entries) r ↔ (content m r.key r.code ≡ Some (held_of r))
each_row m ordered r = (
  (λ k. ap (option_map sum_held) (got.1 (k.0, omega (arith, many, k.1), ap entry_of (sym (get_or-map row_of m.entries k.0 e r (omega (arith, many, k.1))) ∙ k.2)))),
  (λ h. let k = got.0 (holds r (get pair_cmp m (r.key, r.code)) h) in (k.0, omega (arith, many, k.1), get_or-map row_of m.entries k.0 e r k.1 ∙ ap row_of k.2)),
)
  where
    e : (ℕ × ℕ) × Sum
    e = entry_of r

    many : length (map row_of m.entries) ≡ length m.entries
    many = length-map m.entries row_of

    got : (get pair_cmp m e.0 ≡ Some e.1) ↔ Contains m.entries e
    got = btree_map_get_iff pair_total (exact_pairs nat_cmp nat_cmp exact_unsigned exact_unsigned) m ordered e.0 e.1
