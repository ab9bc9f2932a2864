-- Operations in a map from opcodes to operands.
use Rattle.std.proofs.Common.{◌≡◌, ℕ, ◌<◌, ◌↔◌, ◌⊎◌, Bool, true, false, cond, List, [], ◌∷◌, Option, Some, None, Ordering, refl, sym, ap, subst, ◌∙◌, inl, inr}
use Rattle.std.specs.Prelude.{All, AllPairs, Contains, is_some}
use Rattle.std.specs.Global.{Vec}
use Rattle.std.specs.declared.cmp.Ordering.TheVariants.{Less, Equal, Greater}
use Rattle.std.specs.Ordering.{MatchOrdering, ordering_then, nat_cmp, is_eq, match_ordering}
use Rattle.std.specs.Cmp.{ranks, nat_cmp_is}
use Rattle.std.specs.Cmp.Lexicographic.{slice_cmp}
use Rattle.std.specs.List.{AllByRecursion}
use Rattle.std.specs.List.Sorted.{IsStrictlySortedBy}
use Rattle.std.specs.Map.{lookup, keys_of}
use Rattle.std.specs.BTreeMap.{insert_entry}
use Rattle.std.proofs.lemmas.Map.Lookups.{exact_bytes}
use Rattle.std.proofs.lemmas.Bool.{false≢true}
use Rattle.std.proofs.lemmas.List.Elements.{All-nil, All-cons}
use Rattle.pb_epd.specs.declared.operation.Operand.{Operand}
use Rattle.pb_epd.specs.Operation.{Operation}
use Rattle.pb_epd.specs.ByteOrder.{IsBytesBelow}
use Rattle.pb_epd.specs.Epd.{operations_of}
use Rattle.pb_epd.proofs.Lists.{contains_head, contains_there, contains_none, contains_cases, pairs_none, pairs_cons}

-- ---- byte order

first_below : (x y : ℕ) (xs ys : List ℕ) (r : Ordering) → MatchOrdering r (x < y) (x ≡ y) (y < x) → ordering_then r (slice_cmp nat_cmp xs ys) ≡ Less → (slice_cmp nat_cmp xs ys ≡ Less → IsBytesBelow xs ys) → IsBytesBelow (x ∷ xs) (y ∷ ys)
first_below x y xs ys Less h e more = inl h
first_below x y xs ys Equal h e more = inr (h, more e)
first_below x y xs ys Greater h e more = absurd cc

pub below_from_order : (xs ys : List ℕ) → slice_cmp nat_cmp xs ys ≡ Less → IsBytesBelow xs ys
below_from_order [] [] e = absurd cc
below_from_order [] (y ∷ ys) e = tt
below_from_order (x ∷ xs) [] e = absurd cc
below_from_order (x ∷ xs) (y ∷ ys) e = first_below x y xs ys (nat_cmp x y) (ranks x y) e (below_from_order xs ys)

order_same : (xs : List ℕ) → slice_cmp nat_cmp xs xs ≡ Equal
order_same [] = refl
order_same (x ∷ xs) = ap (λ r. ordering_then r (slice_cmp nat_cmp xs xs)) (sym (nat_cmp_is x x Equal refl)) ∙ order_same xs

pub equal_is : (r : Ordering) → is_eq r ≡ true → r ≡ Equal
equal_is Less e = absurd (false≢true e)
equal_is Equal e = refl
equal_is Greater e = absurd (false≢true e)

-- ---- entries

abbrev pub Entry : Type 0
Entry = Vec ℕ × Vec Operand

abbrev pub key_order : Vec ℕ → Vec ℕ → Ordering
key_order x y = slice_cmp nat_cmp x.items y.items

-- whether the key has these bytes
abbrev pub is_at : List ℕ → Vec ℕ → Bool
is_at opcode k = is_eq (slice_cmp nat_cmp opcode k.items)

abbrev pub find : List ℕ → List Entry → Option (Vec Operand)
find opcode entries = lookup (is_at opcode) entries

abbrev operation_of : Entry → Operation
operation_of e = (e.0.items, e.1.items)

at_same : (opcode : List ℕ) (k : Vec ℕ) → k.items ≡ opcode → is_at opcode k ≡ true
at_same opcode k e = ap is_eq (ap (λ w. slice_cmp nat_cmp opcode w) e ∙ order_same opcode)

same_at : (opcode : List ℕ) (k : Vec ℕ) → is_at opcode k ≡ true → opcode ≡ k.items
same_at opcode k e = exact_bytes opcode k.items (equal_is (slice_cmp nat_cmp opcode k.items) e)

pub find_none : (opcode : List ℕ) (entries : List Entry) → find opcode entries ≡ None → (operands : List Operand) → Contains (operations_of entries) (opcode, operands) → ⊥
find_none opcode [] e operands h = contains_none (opcode, operands) h
find_none opcode (x ∷ entries) e operands h = at (is_at opcode x.0) refl e (λ none k. find_none opcode entries none operands k)
  where
    at : (b : Bool) → is_at opcode x.0 ≡ b → cond b (Some x.1) (find opcode entries) ≡ None → (find opcode entries ≡ None → Contains (operations_of entries) (opcode, operands) → ⊥) → ⊥
    at true is e more = absurd cc
    at false is e more =
        elim (contains_cases (operation_of x) (operations_of entries) (opcode, operands) h) [
          | inl same ↦ false≢true (sym is ∙ at_same opcode x.0 (ap (λ (o : Operation). o.0) same))
          | inr k ↦ more e k
        ]

pub find_some : (opcode : List ℕ) (entries : List Entry) (v : Vec Operand) → find opcode entries ≡ Some v → Contains (operations_of entries) (opcode, v.items)
find_some opcode [] v e = absurd cc
find_some opcode (x ∷ entries) v e = at (is_at opcode x.0) refl e (λ found. find_some opcode entries v found)
  where
    at : (b : Bool) → is_at opcode x.0 ≡ b → cond b (Some x.1) (find opcode entries) ≡ Some v → (find opcode entries ≡ Some v → Contains (operations_of entries) (opcode, v.items)) → Contains (operations_of (x ∷ entries)) (opcode, v.items)
    at true is e more =
        let value : x.1 ≡ v = cc in
        let key : operation_of x ≡ (opcode, x.1.items) = ap (λ (k : List ℕ). (k, x.1.items)) (sym (same_at opcode x.0 is)) in
        let operands : operation_of x ≡ (opcode, v.items) = subst (λ (w : Vec Operand). operation_of x ≡ (opcode, w.items)) value key in
        subst (λ o. Contains (operations_of (x ∷ entries)) o) operands (contains_head (operation_of x) (operations_of entries))
    at false is e more = contains_there (operation_of x) (operations_of entries) (opcode, v.items) (more e)

pub has_key : (opcode : List ℕ) (entries : List Entry) → is_some (find opcode entries) ≡ true → (operands : List Operand) × Contains (operations_of entries) (opcode, operands)
has_key opcode entries e = at (find opcode entries) refl e
  where
    at : (r : Option (Vec Operand)) → find opcode entries ≡ r → is_some r ≡ true → (operands : List Operand) × Contains (operations_of entries) (opcode, operands)
    at None is e = absurd (false≢true e)
    at (Some v) is e = (v.items, find_some opcode entries v is)

pub no_key : (opcode : List ℕ) (entries : List Entry) → is_some (find opcode entries) ≡ false → find opcode entries ≡ None
no_key opcode entries e = at (find opcode entries) refl e
  where
    at : (r : Option (Vec Operand)) → find opcode entries ≡ r → is_some r ≡ false → find opcode entries ≡ None
    at None is e = is
    at (Some v) is e = absurd (false≢true (sym e))

-- ---- a new entry

module _ (k : Vec ℕ) (v : Vec Operand) where
  -- what a list with the new entry contains
  abbrev Gains : List Entry → List Entry → Type 0
  Gains old new = (o : Operation) → Contains (operations_of new) o ↔ (Contains (operations_of old) o ⊎ (o ≡ (k.items, v.items)))

  gains_first : (entries : List Entry) → Gains entries ((k, v) ∷ entries)
  gains_first entries o = (
    λ h. elim (contains_cases (k.items, v.items) (operations_of entries) o h) [ inl same ↦ inr (sym same) | inr there ↦ inl there ],
    λ h. elim h [
      | inl there ↦ contains_there (k.items, v.items) (operations_of entries) o there
      | inr same ↦ subst (λ x. Contains (operations_of ((k, v) ∷ entries)) x) (sym same) (contains_head (k.items, v.items) (operations_of entries))
    ],
  )

  gains_later : (x : Entry) (old new : List Entry) → Gains old new → Gains (x ∷ old) (x ∷ new)
  gains_later x old new more o = (
    λ h. elim (contains_cases (operation_of x) (operations_of new) o h) [
      | inl same ↦ inl (subst (λ y. Contains (operations_of (x ∷ old)) y) same (contains_head (operation_of x) (operations_of old)))
      | inr there ↦ elim ((more o).0 there) [ inl was ↦ inl (contains_there (operation_of x) (operations_of old) o was) | inr same ↦ inr same ]
    ],
    λ h. elim h [
      | inl was ↦ elim (contains_cases (operation_of x) (operations_of old) o was) [
        | inl same ↦ subst (λ y. Contains (operations_of (x ∷ new)) y) same (contains_head (operation_of x) (operations_of new))
        | inr there ↦ contains_there (operation_of x) (operations_of new) o ((more o).1 (inl there))
      ]
      | inr same ↦ contains_there (operation_of x) (operations_of new) o ((more o).1 (inr same))
    ],
  )

  pub insert_gains : (entries : List Entry) → find k.items entries ≡ None → Gains entries (insert_entry key_order entries k v)
  insert_gains [] none = gains_first []
  insert_gains (x ∷ entries) none = at (key_order k x.0) refl none (insert_gains entries)
    where
      at : (r : Ordering) → key_order k x.0 ≡ r → cond (is_eq r) (Some x.1) (find k.items entries) ≡ None → (find k.items entries ≡ None → Gains entries (insert_entry key_order entries k v)) → Gains (x ∷ entries) (match_ordering r ((k, v) ∷ x ∷ entries) ((x.0, v) ∷ entries) (x ∷ insert_entry key_order entries k v))
      at Less is e more = gains_first (x ∷ entries)
      at Equal is e more = absurd cc
      at Greater is e more = gains_later x entries (insert_entry key_order entries k v) (more e)

-- ---- order

each_below : (x : Entry) (entries : List Entry) → AllByRecursion (λ y. key_order x.0 y ≡ Less) (keys_of entries) → All (λ o. IsBytesBelow x.0.items o.0) (operations_of entries)
each_below x [] h = All-nil (λ (o : Operation). IsBytesBelow x.0.items o.0)
each_below x (y ∷ entries) h = All-cons (λ (o : Operation). IsBytesBelow x.0.items o.0) (operation_of y) (operations_of entries) (below_from_order x.0.items y.0.items h.0) (each_below x entries h.1)

pub ordered : (entries : List Entry) → IsStrictlySortedBy key_order (keys_of entries) → AllPairs (λ o p. IsBytesBelow o.0 p.0) (operations_of entries)
unfolding IsStrictlySortedBy
ordered [] h = pairs_none (λ (o p : Operation). IsBytesBelow o.0 p.0)
ordered (x ∷ entries) h = pairs_cons (λ (o p : Operation). IsBytesBelow o.0 p.0) (operation_of x) (operations_of entries) (each_below x entries h.0) (ordered entries h.1)
