-- The entries of a key in an ordered book.
use Rattle.std.proofs.Common.{◌≡◌, ℕ, ◌+◌, ◌-◌, ◌*◌, ◌^◌, ◌<◌, ◌≤◌, Bool, true, false, ltb, ltb-true, List, [], ◌∷◌, ◌++◌, length, drop, get_or, ap, subst, sym, ◌∙◌, inl, inr, ◌⊎◌, arith}
use Rattle.std.specs.Prelude.{take_while}
use Rattle.std.specs.List.{prefix_len}
use Rattle.std.specs.List.Sorted.{IsPartitionPoint}
use Rattle.std.proofs.lemmas.Bool.Decides.{nat_tests}
use Rattle.std.proofs.lemmas.List.{get_or-drop, get_or_append_left, get_or_push, length-drop}
use Rattle.std.proofs.lemmas.List.Folds.{length-prefix_len}
use Rattle.std.proofs.lemmas.List.Sums.{prefix_len-le-length, prefix_len_passes, prefix_len_stops}
use Rattle.pb_poly.specs.declared.book.Entry.{Entry}
use Rattle.pb_poly.specs.Book.{NeverFall}
use Rattle.pb_poly.proofs.Runs.{keys_rise}
use Rattle.pb_export.specs.Indexing.{IsBefore}

is_lower : (x k : ℕ) → x < k → ltb x k ≡ true
is_lower x k h = grind (arith, nat_tests)

not_lower : (x k : ℕ) → k ≤ x → ltb x k ≡ false
not_lower x k h = grind (arith, nat_tests)

lower_is : (x k : ℕ) → ltb x k ≡ false → k ≤ x
lower_is x k h = grind (arith, nat_tests)

module _ (key floor : ℕ) (entries : List Entry) (start count : ℕ) (rises : NeverFall entries) (before : IsBefore entries start floor) (low : floor ≤ key)
    (counted : count ≡ length (take_while (λ (e : Entry). ltb e.key key) (drop start entries))) where
  abbrev test : Entry → Bool
  test e = ltb e.key key

  many : count ≡ prefix_len test (drop start entries)
  many = counted ∙ length-prefix_len test (drop start entries)

  pub partition_point : IsPartitionPoint (λ (e : Entry). ltb e.key key ≡ true) (λ (e : Entry). ltb e.key key ≡ false) entries (start + count)
  partition_point = (earlier, later)
    where
      split : (k : ℕ) → (k < start) ⊎ (start ≤ k)
      split k = grind arith

      earlier : (k : ℕ) (d : Entry) → 0 ≤ k → k < start + count → ltb (get_or entries k d).key key ≡ true
      earlier k d from to = elim (split k) [
        | inl left ↦ is_lower (get_or entries k d).key key (omega (arith, low, before.lower k d (omega arith) left))
        | inr right ↦
            let j = k - start in
            let at : get_or (drop start entries) j d ≡ get_or entries k d = get_or-drop start entries j d ∙ ap (λ n. get_or entries n d) (omega (arith, right)) in
            subst (λ (e : Entry). ltb e.key key ≡ true) at (prefix_len_passes test (drop start entries) j d (omega (arith, many, to, right)))
      ]

      later : (k : ℕ) (d : Entry) → start + count ≤ k → k < length entries → ltb (get_or entries k d).key key ≡ false
      later k d from to =
          let n = prefix_len test (drop start entries) in
          let at : get_or (drop start entries) n d ≡ get_or entries (start + count) d = get_or-drop start entries n d ∙ ap (λ m. get_or entries m d) (omega (arith, many)) in
          let stops = subst (λ (e : Entry). ltb e.key key ≡ false) at (prefix_len_stops test (drop start entries) d (omega (arith, many, from, to, length-drop start entries))) in
          not_lower (get_or entries k d).key key (omega (arith, lower_is (get_or entries (start + count) d).key key stops, keys_rise 0 entries rises (start + count) k d from to))

  pub first_within : start + count ≤ length entries
  first_within = omega (arith, many, before.within, prefix_len-le-length test (drop start entries), length-drop start entries)

  pub first_before : IsBefore entries (start + count) key
  first_before = record { within = first_within; lower = λ k d from to. ltb-true (get_or entries k d).key key (partition_point.0 k d from to) }

-- ---- the places of fronts

module _ (entries : List Entry) where
  pub higher_floor : (start floor higher : ℕ) → IsBefore entries start floor → floor ≤ higher → IsBefore entries start higher
  higher_floor start floor higher h le = record { within = h.within; lower = λ k d from to. omega (arith, h.lower k d from to, le) }

  lower_place : (start least floor : ℕ) → IsBefore entries start floor → least ≤ start → IsBefore entries least floor
  lower_place start least floor h le = record { within = omega (arith, h.within, le); lower = λ k d from to. h.lower k d from (omega (arith, to, le)) }

  -- one front more
  pub firsts_more : (firsts new : List ℕ) (n start least : ℕ) → length firsts ≡ n → ((f : ℕ) → f < n → IsBefore entries (get_or firsts f 0) (f * 2 ^ 46))
      → IsBefore entries start (n * 2 ^ 46) → least ≤ start → new ≡ firsts ++ least ∷ [] → (f : ℕ) → f < n + 1 → IsBefore entries (get_or new f 0) (f * 2 ^ 46)
  firsts_more firsts new n start least many each here le is f lt = elim (split f n lt) [
    | inl before ↦
        subst (λ p. IsBefore entries p (f * 2 ^ 46)) (sym (ap (λ (ps : List ℕ). get_or ps f 0) is ∙ get_or_append_left firsts (least ∷ []) 0 f (omega (arith, before, many)))) (each f before)
    | inr at ↦
        let there : get_or new f 0 ≡ least = ap (λ (ps : List ℕ). get_or ps f 0) is ∙ get_or_push firsts least 0 f (many ∙ sym at) in
        subst (λ p. IsBefore entries p (f * 2 ^ 46)) (sym there) (subst (λ m. IsBefore entries least (m * 2 ^ 46)) (sym at) (lower_place start least (n * 2 ^ 46) here le))
  ]
    where
      split : (f n : ℕ) → f < n + 1 → (f < n) ⊎ (f ≡ n)
      split f n lt = grind arith
