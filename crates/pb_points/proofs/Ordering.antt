-- Entries of one key in the order of a book.
use Rattle.std.proofs.Common.{◌≡◌, ℕ, ◌<◌, eqb, Bool, true, false, Ordering, List, length, get_or, AllPairs, Contains, IsPermutation, ap, sym, ◌∙◌, inl, inr, arith, true≢false}
use Rattle.std.specs.Cmp.{IsStrictWeakOrder}
use Rattle.std.specs.List.Sorted.{IsSortedBy}
use Rattle.std.specs.Ordering.{nat_cmp, on, then_cmp, flip_args, is_lt}
use Rattle.std.proofs.lemmas.Bool.{cases_lt}
use Rattle.std.proofs.lemmas.Bool.Decides.{nat_tests}
use Rattle.std.proofs.lemmas.Cmp.{nat_cmp_total, then_total, on_total, back_total}
use Rattle.std.proofs.lemmas.List.Sorted.{ranks_by, sorted_far, IsPermutation-sym, Contains-permutation}
use Rattle.std.proofs.lemmas.List.{get_or_default}
use Rattle.std.proofs.lemmas.List.Elements.{Contains-get_or}
use Rattle.std.proofs.lemmas.Map.Keys.{apart_from_distinct, IsDistinct-from_apart, IsDistinct-IsPermutation}
use Rattle.pb_poly.specs.declared.book.Entry.{Entry}
use Rattle.pb_points.specs.Group.{IsEntryGroup}
use Rattle.pb_points.specs.Weight.{Before}

-- weight falling, then code rising
abbrev pub weight_cmp : Entry → Entry → Ordering
weight_cmp = then_cmp (flip_args (on (λ (e : Entry). e.weight) nat_cmp)) (on (λ (e : Entry). e.code) nat_cmp)

abbrev pub weight_lt : Entry → Entry → Bool
weight_lt e f = is_lt (weight_cmp e f)

weight_order : IsStrictWeakOrder weight_lt
weight_order = ranks_by (then_total (back_total (on_total (λ (e : Entry). e.weight) nat_cmp_total)) (on_total (λ (e : Entry). e.code) nat_cmp_total)) (λ (e : Entry). e)

abbrev same_code : Entry → Entry → Bool
same_code e f = eqb e.code f.code

same_code_flips : (e f : Entry) → same_code e f ≡ same_code f e
same_code_flips e f = grind (arith, nat_tests)

not_same : (e f : Entry) → e.code < f.code → same_code e f ≡ false
not_same e f h = grind (arith, nat_tests)

late_weight : (e f : Entry) → e.weight < f.weight → weight_lt f e ≡ true
late_weight e f h = grind (arith, nat_tests)

late_code : (e f : Entry) → e.weight ≡ f.weight → f.code < e.code → weight_lt f e ≡ true
late_code e f w h = grind (arith, nat_tests)

one_code : (e f : Entry) → e.code ≡ f.code → same_code e f ≡ true
one_code e f h = grind (arith, nat_tests)

-- under one key, what doesn't come after, and has another code, comes before
before : (e f : Entry) → e.key ≡ f.key → weight_lt f e ≡ false → same_code e f ≡ false → Before e f
before e f key late apart = elim (cases_lt f.weight e.weight) [
  | inl heavy ↦ inr (key, inl heavy)
  | inr m ↦ elim (cases_lt e.weight f.weight) [
    | inl light ↦ absurd (true≢false (sym (late_weight e f light) ∙ late))
    | inr n ↦
        let weight : e.weight ≡ f.weight = omega arith in
        elim (cases_lt e.code f.code) [
          | inl low ↦ inr (key, inr (weight, low))
          | inr o ↦ elim (cases_lt f.code e.code) [
            | inl high ↦ absurd (true≢false (sym (late_code e f weight high) ∙ late))
            | inr q ↦ let code : e.code ≡ f.code = omega arith in absurd (true≢false (sym (one_code e f code) ∙ apart))
          ]
        ]
  ]
]

one_key : (entries : List Entry) → IsEntryGroup entries → (e f : Entry) → Contains entries e → Contains entries f → e.key ≡ f.key
one_key entries apart e f h k = elim (cases_lt h.0 k.0) [
  | inl up ↦ ap (λ (x : Entry). x.key) (sym h.2) ∙ (keys h.0 k.0 e up k.1) ∙ ap (λ (x : Entry). x.key) (get_or_default entries k.0 e f k.1 ∙ k.2)
  | inr le ↦ elim (cases_lt k.0 h.0) [
    | inl down ↦ sym (ap (λ (x : Entry). x.key) (sym k.2) ∙ (keys k.0 h.0 f down h.1) ∙ ap (λ (x : Entry). x.key) (get_or_default entries h.0 f e h.1 ∙ h.2))
    | inr ge ↦ let same : h.0 ≡ k.0 = omega arith in ap (λ (x : Entry). x.key) (sym h.2 ∙ ap (λ i. get_or entries i e) same ∙ get_or_default entries k.0 e f k.1 ∙ k.2)
  ]
]
  where
    keys : (i j : ℕ) (d : Entry) → i < j → j < length entries → (get_or entries i d).key ≡ (get_or entries j d).key
    keys i j d lt within = (apart i j d lt within).0

pub sorted_before : (old new : List Entry) → IsEntryGroup old → IsPermutation old new → IsSortedBy weight_lt new → AllPairs Before new
sorted_before old new apart perm sorted i j d lt within =
    let from : (e : Entry) → Contains new e → Contains old e = λ e h. Contains-permutation new old e (IsPermutation-sym old new perm) h in
    let key = one_key old apart (get_or new i d) (get_or new j d) (from (get_or new i d) (Contains-get_or new i d (omega arith))) (from (get_or new j d) (Contains-get_or new j d within)) in
    let distinct = IsDistinct-from_apart same_code old (λ i j d lt within. not_same (get_or old i d) (get_or old j d) (apart i j d lt within).1) in
    let other = apart_from_distinct same_code new i j d (IsDistinct-IsPermutation same_code same_code_flips old new perm distinct) lt within in
    before (get_or new i d) (get_or new j d) key (sorted_far weight_lt weight_order new sorted i j d (omega arith) within) other
