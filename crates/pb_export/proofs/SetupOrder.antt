-- Listed setups in the order of their fields, each once.
use Rattle.std.proofs.Common.{◌≡◌, ℕ, ◌<◌, Bool, true, List, [], ◌∷◌, ap, get_or, length, sym, subst, ◌∙◌}
use Rattle.std.specs.Prelude.{Contains, IsPermutation, nat_eq}
use Rattle.std.specs.declared.cmp.Ordering.{Ordering}
use Rattle.std.specs.declared.cmp.Ordering.TheVariants.{Less}
use Rattle.std.specs.Cmp.{IsTotalOrder}
use Rattle.std.specs.Ordering.{is_lt, nat_cmp}
use Rattle.std.specs.Cmp.Lexicographic.{on_texts, on_texts_equal, pointwise, slice_cmp, texts_ties}
use Rattle.std.specs.List.{AllByRecursion, dedup}
use Rattle.std.specs.Fn.{Called}
use Rattle.std.specs.List.Sorted.{IsSorted, IsSortedByClosure, IsStrictlySortedBy}
use Rattle.std.proofs.lemmas.List.Elements.{All-cons, All-nil}
use Rattle.std.proofs.lemmas.List.Kept.{Any-dedup, Contains-from_dedup, IsStrictlySortedBy-dedup}
use Rattle.std.proofs.lemmas.Fn.{always_returns_same}
use Rattle.std.proofs.lemmas.List.Sorted.{Contains-permutation, IsPermutation-sym, ranks_by}
use Rattle.std.proofs.lemmas.Map.Lookups.{exact_bytes}
use denote.Param.Members.{Mut}
use denote.Ref.{Bor}
use Rattle.pb_epd.specs.ByteOrder.{IsBytesBelow}
use Rattle.pb_epd.proofs.Lists.{pairs_cons, pairs_none}
use Rattle.pb_epd.proofs.Maps.{below_from_order, equal_is}
use Rattle.pb_export.specs.Setups.{InFieldOrder}
use Rattle.pb_export.specs.declared.setups.ListedSetup.{ListedSetup}

abbrev order : ListedSetup → ListedSetup → Ordering
order x y = slice_cmp nat_cmp x.fields y.fields

abbrev pub same : ListedSetup → ListedSetup → Bool
same x y = pointwise nat_eq x.fields y.fields

abbrev Below : ListedSetup → ListedSetup → Type 0
Below x y = IsBytesBelow x.fields y.fields

order_total : IsTotalOrder order
order_total = on_texts (λ (x : ListedSetup). x.fields)

pub same_is : (xs ys : List ℕ) → pointwise nat_eq xs ys ≡ true → xs ≡ ys
same_is xs ys h = exact_bytes xs ys (equal_is (slice_cmp nat_cmp xs ys) (sym (texts_ties xs ys) ∙ h))

each_below : (x : ListedSetup) (xs : List ListedSetup) → AllByRecursion (λ y. order x y ≡ Less) xs → (k : ℕ) (d : ListedSetup) → k < length xs → Below x (get_or xs k d)
each_below x [] h = All-nil (Below x)
each_below x (y ∷ xs) h = All-cons (Below x) y xs (below_from_order x.fields y.fields h.0) (each_below x xs h.1)

in_field_order : (xs : List ListedSetup) → IsStrictlySortedBy order xs → InFieldOrder xs
unfolding IsStrictlySortedBy
in_field_order [] h = pairs_none Below
in_field_order (x ∷ xs) h = pairs_cons Below x xs (each_below x xs h.0) (in_field_order xs h.1)

-- what a sort by this order gives
pub sorted_by : {F : Type 0} {g : Mut F (Bor ListedSetup × (Bor ListedSetup × Unit {0})) Ordering} {f : F} (xs : List ListedSetup) → IsSortedByClosure g f xs
    → ((a : Bor ListedSetup × (Bor ListedSetup × Unit {0})) (r : Ordering) (f' : F) → Called g f a r f' → (r ≡ order a.0.now a.1.0.now) × (f' ≡ f)) → IsSorted order xs
sorted_by {g = g} {f = f} xs sorts h =
    sorts (λ x y. is_lt (order x y)) (ranks_by order_total (λ x. x)) (always_returns_same g (λ a r. is_lt r ≡ is_lt (order a.0.now a.1.0.now)) f (λ a r f' k. (ap is_lt (h a r f' k).0, (h a r f' k).1)))

module _ (old sorted new : List ListedSetup) (moved : IsPermutation old sorted) (is : new ≡ dedup same sorted) where
  pub sorted_once : IsSorted order sorted → InFieldOrder new
  sorted_once h = in_field_order new (subst (IsStrictlySortedBy order) (sym is) (IsStrictlySortedBy-dedup order_total (λ x y. texts_ties x.fields y.fields) sorted h))

  pub from_old : (x : ListedSetup) → Contains new x → Contains old x
  from_old x h = Contains-permutation sorted old x (IsPermutation-sym old sorted moved) (Contains-from_dedup same sorted x (subst (λ xs. Contains xs x) is h))

  pub kept : (x : ListedSetup) → Contains old x → (y : ListedSetup) × Contains new y × (y.fields ≡ x.fields)
  kept x h =
      let any = Any-dedup (on_texts_equal (λ (x : ListedSetup). x.fields)) sorted x (Contains-permutation old sorted x moved h) in
      let there : Contains new any.1 = subst (λ xs. Contains xs any.1) (sym is) (any.0, any.2, any.3) in
      (any.1, there, sym (same_is x.fields any.1.fields any.4))
