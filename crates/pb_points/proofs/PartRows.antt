-- Tallies by part.
use Rattle.std.proofs.Common.{◌≡◌, ℕ, ◌+◌, ◌-◌, ◌<◌, ◌≤◌, ◌↔◌, zero, suc, Bool, true, false, if◌then◌else◌, Option, Some, None, IsSome, unwrap_or, List, [], ◌∷◌, ◌++◌, length, get_or, set, AllPairs, Contains, refl, sym, ap, ◌∙◌, inl, inr, arith, subst}
use Rattle.std.specs.Prelude.{slice_get}
use Rattle.std.specs.Option.{option_and_then}
use Rattle.std.proofs.Math.ListN.{get_or-append, length-append}
use Rattle.std.proofs.lemmas.Bool.{cases_eq, cases_lt}
use Rattle.std.proofs.lemmas.List.{get_or-append_right}
use Rattle.std.proofs.lemmas.List.Elements.{Contains-append_left, Contains-append_right, Contains-append_cases, Contains-get_or}
use Rattle.std.proofs.lemmas.Option.{slice_get_past, slice_get_within}
use Rattle.pb_points.specs.declared.row.Row.{Row}
use Rattle.pb_points.specs.PartTally.{HoldNothing, HoldsOwn, part_of, parts_content}
use Rattle.pb_points.specs.Rows.{IsBelow}
use Rattle.pb_points.specs.Tally.{Content, Held, held, held_of, is_pair, nothing}
use Rattle.pb_points.proofs.Pairs.{is_pair_same}

-- ---- an element set

get_set_same : {X : Type 0} (xs : List X) (i : ℕ) (v : X) → i < length xs → slice_get (set xs i v) i ≡ Some v
get_set_same [] i v lt = absurd (omega arith)
get_set_same (x ∷ xs) zero v lt = refl
get_set_same (x ∷ xs) (suc i) v lt = get_set_same xs i v (omega arith)

get_set_other : {X : Type 0} (xs : List X) (i j : ℕ) (v : X) → (j ≡ i → ⊥) → slice_get (set xs i v) j ≡ slice_get xs j
get_set_other [] i j v other = refl
get_set_other (x ∷ xs) zero zero v other = absurd (other refl)
get_set_other (x ∷ xs) zero (suc j) v other = refl
get_set_other (x ∷ xs) (suc i) zero v other = refl
get_set_other (x ∷ xs) (suc i) (suc j) v other = get_set_other xs i j v (λ e. other (ap suc e))

some_is : {X : Type 0} (x y : X) → Some x ≡ Some y → x ≡ y
some_is x y e = cc

is_some : {X : Type 0} (o p : Option X) → o ≡ p → IsSome o → IsSome p
is_some o p e h = subst IsSome e h

module _ {T : Type 0} (content : T → Content) where
  -- a part is changed at one key and code
  abbrev Changes : (Held → Held) → Content → Content → ℕ → ℕ → Type 0
  Changes f old new key code = (k c : ℕ) → new k c ≡ (if is_pair key code k c then Some (f (held old k c)) else old k c)

  pub at_part : (parts : List T) (k c : ℕ) (t : T) → slice_get parts (part_of k) ≡ Some t → parts_content content parts k c ≡ content t k c
  at_part parts k c t e = ap (option_and_then (λ part. content part k c)) e

  pub part_changed : (f : Held → Held) (parts : List T) (key code : ℕ) (old new : T) → slice_get parts (part_of key) ≡ Some old
      → Changes f (content old) (content new) key code → Changes f (parts_content content parts) (parts_content content (set parts (part_of key) new)) key code
  part_changed f parts key code old new was changes k c = elim (cases_eq (part_of k) (part_of key)) [
    | inl same ↦
        let before : parts_content content parts k c ≡ content old k c = at_part parts k c old (ap (slice_get parts) same ∙ was) in
        let after : parts_content content (set parts (part_of key) new) k c ≡ content new k c =
        at_part (set parts (part_of key) new) k c new (ap (slice_get (set parts (part_of key) new)) same ∙ get_set_same parts (part_of key) new (slice_get_within parts (part_of key) old was)) in
        after ∙ changes k c ∙ ap (λ o. if is_pair key code k c then Some (f (unwrap_or o nothing)) else o) (sym before)
    | inr other ↦
        ap (option_and_then (λ part. content part k c)) (get_set_other parts (part_of key) (part_of k) new other)
        ∙ sym (ap (λ b. if b then Some (f (held (parts_content content parts) k c)) else parts_content content parts k c) (no_pair (is_pair key code k c) refl other))
  ]
    where
      no_pair : (b : Bool) → is_pair key code k c ≡ b → (part_of k ≡ part_of key → ⊥) → is_pair key code k c ≡ false
      no_pair true e other = let p = is_pair_same key code k c e in absurd (other (ap part_of (sym p.0)))
      no_pair false e other = e

  pub own_changed : (f : Held → Held) (parts : List T) (key code : ℕ) (old new : T) → slice_get parts (part_of key) ≡ Some old
      → Changes f (content old) (content new) key code → HoldsOwn content parts → HoldsOwn content (set parts (part_of key) new)
  own_changed f parts key code old new was changes own i k c part is some = elim (cases_eq i (part_of key)) [
    | inl same ↦
        let here : slice_get (set parts (part_of key) new) i ≡ Some new = ap (slice_get (set parts (part_of key) new)) same ∙ get_set_same parts (part_of key) new (slice_get_within parts (part_of key) old was) in
        let it : part ≡ new = some_is part new (sym is ∙ here) in
        by same (subst (λ t. IsSome (content t k c)) it some) (is_pair key code k c) refl
    | inr other ↦ own i k c part (sym (get_set_other parts (part_of key) i new other) ∙ is) some
  ]
    where
      by : i ≡ part_of key → IsSome (content new k c) → (b : Bool) → is_pair key code k c ≡ b → part_of k ≡ i
      by same some true e = let p = is_pair_same key code k c e in ap part_of (sym p.0) ∙ sym same
      by same some false e =
          let kept : content new k c ≡ content old k c = changes k c ∙ ap (λ b. if b then Some (f (held (content old) k c)) else content old k c) e in
          own i k c old (ap (slice_get parts) same ∙ was) (is_some (content new k c) (content old k c) kept some)

  -- ---- parts without rows

  pub nothing_pushed : (parts : List T) (t : T) → HoldNothing content parts → ((k c : ℕ) → content t k c ≡ None) → HoldNothing content (parts ++ t ∷ [])
  nothing_pushed [] t none new zero k c part is = ap (λ x. content x k c) (some_is part t (sym is)) ∙ new k c
  nothing_pushed [] t none new (suc i) k c part is = let no : None ≡ Some part = is in cc
  nothing_pushed (x ∷ parts) t none new zero k c part is = none zero k c part is
  nothing_pushed (x ∷ parts) t none new (suc i) k c part is = nothing_pushed parts t (λ j. none (suc j)) new i k c part is

-- ---- the rows of the parts

all_pairs_append : (R : Row → Row → Type 0) (xs ys : List Row) → AllPairs R xs → AllPairs R ys → ((r s : Row) → Contains xs r → Contains ys s → R r s) → AllPairs R (xs ++ ys)
all_pairs_append R xs ys a b across i j d lt within = elim (cases_lt j (length xs)) [
  | inl low ↦
      let left : R (get_or xs i d) (get_or xs j d) = a i j d lt low in
      subst (λ r. R r (get_or (xs ++ ys) j d)) (sym (get_or-append xs ys d i (omega arith))) (subst (R (get_or xs i d)) (sym (get_or-append xs ys d j low)) left)
  | inr high ↦
      let fits : j - length xs < length ys = omega (arith, length-append xs ys) in
      let last : get_or (xs ++ ys) j d ≡ get_or ys (j - length xs) d = get_or-append_right xs ys (length xs) j d refl high in
      elim (cases_lt i (length xs)) [
        | inl low ↦
            subst (λ r. R r (get_or (xs ++ ys) j d)) (sym (get_or-append xs ys d i low))
            (subst (R (get_or xs i d)) (sym last) (across (get_or xs i d) (get_or ys (j - length xs) d) (Contains-get_or xs i d low) (Contains-get_or ys (j - length xs) d fits)))
        | inr up ↦
            let first : get_or (xs ++ ys) i d ≡ get_or ys (i - length xs) d = get_or-append_right xs ys (length xs) i d refl up in
            subst (λ r. R r (get_or (xs ++ ys) j d)) (sym first)
            (subst (R (get_or ys (i - length xs) d)) (sym last) (b (i - length xs) (j - length xs) d (omega arith) fits))
      ]
]

-- a lower part has lower keys
pub lower_part : (j k : ℕ) → part_of j < part_of k → j < k
lower_part j k lt = elim (cases_lt j k) [
  | inl below ↦ below
  | inr le ↦ absurd (omega arith)
]

module _ {T : Type 0} (content : T → Content) where
  -- rows are those of the first i parts
  pub record Listing (parts : List T) (rows : List Row) (i : ℕ) : Type 0 where
    pub rise : AllPairs IsBelow rows
    pub each : (r : Row) → Contains rows r ↔ ((part_of r.key < i) × (parts_content content parts r.key r.code ≡ Some (held_of r)))

  pub listing_starts : (parts : List T) → Listing parts [] 0
  listing_starts parts = record { rise = λ i j d lt within. absurd (omega arith); each = λ r. (λ h. absurd (omega (arith, h.1)), λ h. absurd (omega (arith, h.0))) }

  pub listing_goes_on : (parts : List T) (rows more : List Row) (i : ℕ) (part : T) → HoldsOwn content parts → slice_get parts i ≡ Some part → Listing parts rows i
      → AllPairs IsBelow more → ((r : Row) → Contains more r ↔ (content part r.key r.code ≡ Some (held_of r))) → Listing parts (rows ++ more) (i + 1)
  listing_goes_on parts rows more i part own is l rise each = record {
    rise = all_pairs_append IsBelow rows more l.rise rise (λ r s a b. inl (lower_part r.key s.key (lower r s ((l.each r).0 a).0 (index s b))));
    each = λ r. (
      λ h. elim (Contains-append_cases rows more r h) [
        | inl old ↦ (next ((l.each r).0 old).0, ((l.each r).0 old).1)
        | inr new ↦ (last (index r new), here r (index r new) ∙ (each r).0 new)
      ],
      λ h. elim (cases_lt (part_of r.key) i) [
        | inl low ↦ Contains-append_left rows more r ((l.each r).1 (low, h.1))
        | inr le ↦
            let at : part_of r.key ≡ i = omega (arith, h.0, le) in
            Contains-append_right rows more r ((each r).1 (sym (here r at) ∙ h.1))
      ],
    );
  }
    where
      index : (r : Row) → Contains more r → part_of r.key ≡ i
      index r new = own i r.key r.code part is (is_some (Some (held_of r)) (content part r.key r.code) (sym ((each r).0 new)) refl)

      here : (r : Row) → part_of r.key ≡ i → parts_content content parts r.key r.code ≡ content part r.key r.code
      here r at = ap (option_and_then (λ part. content part r.key r.code)) (ap (slice_get parts) at ∙ is)

      lower : (r s : Row) → part_of r.key < i → part_of s.key ≡ i → part_of r.key < part_of s.key
      lower r s lt e = omega arith

      next : {n : ℕ} → n < i → n < i + 1
      next lt = omega arith

      last : {n : ℕ} → n ≡ i → n < i + 1
      last e = omega arith

  pub listing_ends : (parts : List T) (rows : List Row) (i : ℕ) → Listing parts rows i → length parts ≤ i
      → (r : Row) → Contains rows r ↔ (parts_content content parts r.key r.code ≡ Some (held_of r))
  listing_ends parts rows i l end r = (λ h. ((l.each r).0 h).1, λ e. (l.each r).1 (within e, e))
    where
      within : parts_content content parts r.key r.code ≡ Some (held_of r) → part_of r.key < i
      within e = elim (cases_lt (part_of r.key) (length parts)) [
        | inl lt ↦ omega arith
        | inr past ↦
            let none : parts_content content parts r.key r.code ≡ None = ap (option_and_then (λ part. content part r.key r.code)) (slice_get_past parts (part_of r.key) past) in
            let no : None ≡ Some (held_of r) = sym none ∙ e in
            cc
      ]
