-- The book of rows, one key after another.
use Rattle.std.proofs.Common.{zero, suc, ◌≡◌, ℕ, ◌+◌, ◌-◌, ◌<◌, ◌≤◌, ◌↔◌, ◌==◌, Bool, true, false, List, [], ◌∷◌, ◌++◌, length, get_or, AllPairs, Contains, refl, sym, ap, subst, ◌∙◌, inl, inr, arith, append-nil, append_assoc, Ok, Err, Result, IsOk, MatchResult}
use Rattle.std.specs.List.{IsChunkByPrefix}
use Rattle.std.proofs.Math.ListN.{length-append}
use Rattle.std.proofs.lemmas.Bool.{cases_lt}
use Rattle.std.proofs.lemmas.Bool.Decides.{nat_tests}
use Rattle.std.proofs.lemmas.List.{get_or_append_left, get_or-append-add, get_or_default}
use Rattle.std.proofs.lemmas.List.Elements.{All-append, Contains-append_cases, Contains-append_left, Contains-append_right, Contains-get_or}
use Rattle.std.proofs.lemmas.List.Kept.{AllPairs-cons}
use Rattle.pb_poly.specs.declared.book.Entry.{Entry}
use Rattle.pb_poly.specs.Book.{NeverFall, NeverFallsFrom, keys_of}
use Rattle.pb_points.specs.declared.row.Row.{Row}
use Rattle.pb_points.specs.Group.{AddsBook, IsGroup}
use Rattle.pb_points.specs.Rows.{Gives, IsBelow, IsBookOfRows}
use Rattle.pb_points.specs.TallyBook.{AddsSome}
use Rattle.pb_points.specs.Weight.{Before}
use Rattle.pb_points.proofs.Tops.{IsTop-agree}
use Rattle.pb_points.proofs.Weighing.{keys_agree}

-- ---- pairs of a joined list

module _ {X : Type 0} (R : X → X → Type 0) where
  AllPairs-left : (xs ys : List X) → AllPairs R (xs ++ ys) → AllPairs R xs
  AllPairs-left xs ys h i j d lt within =
      subst (λ x. R x (get_or xs j d)) (get_or_append_left xs ys d i (omega arith))
      (subst (R (get_or (xs ++ ys) i d)) (get_or_append_left xs ys d j within) (h i j d lt (omega (arith, length-append xs ys))))

  AllPairs-right : (xs ys : List X) → AllPairs R (xs ++ ys) → AllPairs R ys
  AllPairs-right xs ys h i j d lt within =
      subst (λ x. R x (get_or ys j d)) (get_or-append-add xs ys i d)
      (subst (R (get_or (xs ++ ys) (length xs + i) d)) (get_or-append-add xs ys j d) (h (length xs + i) (length xs + j) d (omega arith) (omega (arith, length-append xs ys))))

  -- an element of the first list, and one of the second
  AllPairs-across : (xs ys : List X) → AllPairs R (xs ++ ys) → (x y : X) → Contains xs x → Contains ys y → R x y
  AllPairs-across xs ys h x y a b =
      let left = get_or_append_left xs ys y a.0 a.1 in
      let right = get_or-append-add xs ys b.0 y in
      let pair = h a.0 (length xs + b.0) y (omega (arith, a.1)) (omega (arith, b.1, length-append xs ys)) in
      subst (λ z. R z y) (left ∙ get_or_default xs a.0 y x a.1 ∙ a.2) (subst (R (get_or (xs ++ ys) a.0 y)) (right ∙ b.2) pair)

  pub AllPairs-append : (xs ys : List X) → AllPairs R xs → AllPairs R ys → ((x y : X) → Contains xs x → Contains ys y → R x y) → AllPairs R (xs ++ ys)
  AllPairs-append [] ys h k across = k
  AllPairs-append (x ∷ xs) ys h k across =
      AllPairs-cons R x (xs ++ ys)
      (All-append (R x) xs ys (λ j d within. h 0 (suc j) d (omega arith) (omega arith)) (λ j d within. across x (get_or ys j d) (0, omega arith, refl) (Contains-get_or ys j d within)))
      (AllPairs-append xs ys (λ i j d lt within. h (suc i) (suc j) d (omega arith) (omega arith)) k (λ a b l. across a b (suc l.0, omega (arith, l.1), l.2)))

-- ---- the book of a joined list

-- the keys of the first rows are below those of the second
abbrev pub KeysBelow : List Row → List Row → Type 0
KeysBelow rows others = (r s : Row) → Contains rows r → Contains others s → r.key < s.key

Gives-agree : (rows others : List Row) (r : Row) (e : Entry) → ((x : Row) → x.key ≡ r.key → Contains rows x ↔ Contains others x) → Gives rows r e → Gives others r e
Gives-agree rows others r e same g = record { greatest = g.greatest; top = IsTop-agree rows others r.key g.greatest same g.top; key = g.key; code = g.code; weight = g.weight; some = g.some; learn = g.learn }

flip : {A B : Type 0} → A ↔ B → B ↔ A
flip h = (h.1, h.0)

module _ (rows others : List Row) (below : KeysBelow rows others) where
  -- a key of the first rows is in them alone
  same_left : (r : Row) → Contains rows r → (x : Row) → x.key ≡ r.key → Contains rows x ↔ Contains (rows ++ others) x
  same_left r h x e = (
    (λ k. Contains-append_left rows others x k),
    (λ k. elim (Contains-append_cases rows others x k) [ inl left ↦ left | inr right ↦ absurd (omega (arith, below r x h right, e)) ]),
  )

  same_right : (r : Row) → Contains others r → (x : Row) → x.key ≡ r.key → Contains others x ↔ Contains (rows ++ others) x
  same_right r h x e = (
    (λ k. Contains-append_right rows others x k),
    (λ k. elim (Contains-append_cases rows others x k) [ inl left ↦ absurd (omega (arith, below x r left h, e)) | inr right ↦ right ]),
  )

  pub IsBookOfRows-append : (E F : List Entry) → IsBookOfRows rows E → IsBookOfRows others F → IsBookOfRows (rows ++ others) (E ++ F)
  IsBookOfRows-append E F g h = record { ordered = AllPairs-append Before E F g.ordered h.ordered across; members = λ e. (to e, from e) }
    where
      across : (e f : Entry) → Contains E e → Contains F f → Before e f
      across e f a b =
          let r = (g.members e).0 a in
          let s = (h.members f).0 b in
          inl (omega (arith, below r.0 s.0 r.1 s.1, r.2.key, s.2.key))

      to : (e : Entry) → Contains (E ++ F) e → (r : Row) × Contains (rows ++ others) r × Gives (rows ++ others) r e
      to e a = elim (Contains-append_cases E F e a) [
        | inl left ↦ let r = (g.members e).0 left in (r.0, Contains-append_left rows others r.0 r.1, Gives-agree rows (rows ++ others) r.0 e (same_left r.0 r.1) r.2)
        | inr right ↦ let r = (h.members e).0 right in (r.0, Contains-append_right rows others r.0 r.1, Gives-agree others (rows ++ others) r.0 e (same_right r.0 r.1) r.2)
      ]

      from : (e : Entry) → ((r : Row) × Contains (rows ++ others) r × Gives (rows ++ others) r e) → Contains (E ++ F) e
      from e r = elim (Contains-append_cases rows others r.0 r.1) [
        | inl left ↦ Contains-append_left E F e ((g.members e).1 (r.0, left, Gives-agree (rows ++ others) rows r.0 e (λ x k. flip (same_left r.0 left x k)) r.2))
        | inr right ↦ Contains-append_right E F e ((h.members e).1 (r.0, right, Gives-agree (rows ++ others) others r.0 e (λ x k. flip (same_right r.0 right x k)) r.2))
      ]

-- ---- one key after another

pub adds_nothing : (old : List Entry) → AddsBook [] old old
adds_nothing old = (
  [],
  sym (append-nil old),
  record { ordered = λ i j d lt within. absurd (omega (arith, within)); members = λ e. (λ h. absurd (omega (arith, h.1)), λ h. absurd (omega (arith, h.1.1))) },
)

pub adds_both : (rows others : List Row) (old mid new : List Entry) → KeysBelow rows others → AddsBook rows old mid → AddsBook others mid new → AddsBook (rows ++ others) old new
adds_both rows others old mid new below h k = (h.0 ++ k.0, k.1 ∙ ap (λ l. l ++ k.0) h.1 ∙ append_assoc old h.0 k.0, IsBookOfRows-append rows others below h.0 k.0 h.2 k.2)

pub adds_more : (rows : List Row) (old mid new : List Entry) → AddsBook rows old mid → AddsSome mid new → AddsSome old new
adds_more rows old mid new h more = (h.0 ++ more.0, more.1 ∙ ap (λ l. l ++ more.0) h.1 ∙ append_assoc old h.0 more.0)

-- what is added of rows: their book, or that of what they hold together
abbrev pub Adder : Type 1
Adder = List Row → List Entry → List Entry → Type 0

-- what is to be added of the rows before the rest, whose keys are below those of the rest, was added
pub record IsSoFar (R : Row → Row → Type 0) (Adds : Adder) (rows : List Row) (old new : List Entry) (rest : List Row) : Type 0 where
  pub done : List Row
  pub split : rows ≡ done ++ rest
  pub below : KeysBelow done rest
  pub ordered : AllPairs R rest
  pub adds : Adds done old new

pub so_far_starts : {R : Row → Row → Type 0} {Adds : Adder} (rows rest : List Row) (old : List Entry) → rest ≡ rows → AllPairs R rows → Adds [] old old → IsSoFar R Adds rows old old rest
so_far_starts {R} rows rest old is ordered adds = record {
  done = [];
  split = sym is;
  below = λ r s a b. absurd (omega (arith, a.1));
  ordered = subst (AllPairs R) (sym is) ordered;
  adds = adds;
}

pub so_far_all : {R : Row → Row → Type 0} {Adds : Adder} (rows rest : List Row) (old new : List Entry) → length rest ≡ 0 → IsSoFar R Adds rows old new rest → Adds rows old new
so_far_all {R} {Adds} rows [] old new none h = subst (λ D. Adds D old new) (sym (h.split ∙ append-nil h.done)) h.adds
so_far_all rows (r ∷ rest) old new none h = absurd (omega arith)

abbrev pub keys_equal : Row → Row → Bool
keys_equal r s = r.key == s.key

-- a group is cut off the front of the rest
pub record IsCut (rest group later : List Row) : Type 0 where
  pub split : rest ≡ group ++ later
  pub some : 0 < length group
  pub prefix : IsChunkByPrefix keys_equal rest (length group)

key_is : (r s : Row) → keys_equal r s ≡ true → r.key ≡ s.key
key_is r s h = grind (arith, nat_tests)

key_isnt : (r s : Row) → r.key ≡ s.key → keys_equal r s ≡ false → ⊥
key_isnt r s e h = grind (arith, nat_tests)

pub keys_rise : (r s : Row) → IsBelow r s → r.key ≤ s.key
keys_rise r s (inl h) = omega arith
keys_rise r s (inr h) = omega arith

-- a group of rows in one or the other order, by which keys never fall
module _ (R : Row → Row → Type 0) (rises : (r s : Row) → R r s → r.key ≤ s.key) (rest group later : List Row) (cut : IsCut rest group later) (rise : AllPairs R rest) where
  rise_split : AllPairs R (group ++ later)
  rise_split = subst (AllPairs R) cut.split rise

  pub cut_rise : AllPairs R group
  cut_rise = AllPairs-left R group later rise_split

  pub cut_rise_later : AllPairs R later
  cut_rise_later = AllPairs-right R group later rise_split

  -- each key is the next
  next_key : (k : ℕ) (d : Row) → k + 1 < length group → (get_or group k d).key ≡ (get_or group (k + 1) d).key
  next_key k d lt =
      let e = key_is (get_or rest k d) (get_or rest (k + 1) d) (cut.prefix.0 k d lt) in
      let at : (j : ℕ) → j < length group → get_or rest j d ≡ get_or group j d = λ j l. ap (λ l. get_or l j d) cut.split ∙ get_or_append_left group later d j l in
      ap (λ (r : Row). r.key) (sym (at k (omega arith))) ∙ e ∙ ap (λ (r : Row). r.key) (at (k + 1) lt)

  keys_from : (i n : ℕ) (d : Row) → i + n < length group → (get_or group i d).key ≡ (get_or group (i + n) d).key
  keys_from i zero d lt = ap (λ m. (get_or group m d).key) (omega arith)
  keys_from i (suc n) d lt =
      keys_from i n d (omega arith) ∙ next_key (i + n) d (omega arith) ∙ ap (λ m. (get_or group m d).key) (omega arith)

  pub cut_one : AllPairs (λ r s. r.key ≡ s.key) group
  cut_one i j d lt within = keys_from i (j - i) d (omega arith) ∙ ap (λ m. (get_or group m d).key) (omega arith)

  -- the keys of the group are below those that follow
  pub cut_below : KeysBelow group later
  cut_below r s h k =
      let here = keys_agree group cut_one r last h (Contains-get_or group (length group - 1) s (omega (arith, cut.some))) in
      let up = rises last first (AllPairs-across R group later rise_split last first (Contains-get_or group (length group - 1) s (omega (arith, cut.some))) (Contains-get_or later 0 s some)) in
      elim (cases_lt last.key first.key) [
        | inl lt ↦ omega (arith, here, lt, on)
        | inr ge ↦ absurd (key_isnt (get_or rest (length group - 1) s) (get_or rest (length group) s) (ap (λ (x : Row). x.key) end ∙ omega (arith, up, ge) ∙ ap (λ (x : Row). x.key) (sym start)) (cut.prefix.1 within s))
      ]
    where
      last : Row
      last = get_or group (length group - 1) s

      first : Row
      first = get_or later 0 s

      some : 0 < length later
      some = omega (arith, k.1)

      within : length group < length rest
      within = omega (arith, some, ap length cut.split, length-append group later)

      end : get_or rest (length group - 1) s ≡ last
      end = ap (λ l. get_or l (length group - 1) s) cut.split ∙ get_or_append_left group later s (length group - 1) (omega (arith, cut.some))

      start : get_or rest (length group) s ≡ first
      start = (λ i. get_or (cut.split i) (length_zero i) s) ∙ get_or-append-add group later 0 s
        where
          length_zero : length group ≡ length group + 0
          length_zero = omega arith

      on : first.key ≤ s.key
      on = elim (cases_lt 0 k.0) [
        | inl past ↦ subst (λ (x : Row). first.key ≤ x.key) k.2 (rises first (get_or later k.0 s) (cut_rise_later 0 k.0 s past k.1))
        | inr least ↦ let same : 0 ≡ k.0 = omega arith in let is : first ≡ s = ap (λ i. get_or later i s) same ∙ k.2 in subst (λ (x : Row). first.key ≤ x.key) is (omega arith)
      ]

  pub cut_group : IsGroup R group
  cut_group = record { some = cut.some; ordered = cut_rise; one = cut_one }

  -- that of one key more
  pub so_far_more : {Adds : Adder} → ((rows others : List Row) (old mid new : List Entry) → KeysBelow rows others → Adds rows old mid → Adds others mid new → Adds (rows ++ others) old new)
      → (rows : List Row) (old mid new : List Entry) → IsSoFar R Adds rows old mid rest → Adds group mid new → IsSoFar R Adds rows old new later
  so_far_more both rows old mid new h adds = record {
    done = h.done ++ group;
    split = h.split ∙ ap (λ l. h.done ++ l) cut.split ∙ sym (append_assoc h.done group later);
    below = λ r s a b. elim (Contains-append_cases h.done group r a) [
      | inl before ↦ h.below r s before (subst (λ l. Contains l s) (sym cut.split) (Contains-append_right group later s b))
      | inr now ↦ cut_below r s now b
    ];
    ordered = cut_rise_later;
    adds = both h.done group old mid new (λ r s a b. h.below r s a (subst (λ l. Contains l s) (sym cut.split) (Contains-append_left group later s b))) h.adds adds;
  }

-- ---- keys that never fall

fronts_fall : (e : Entry) (entries : List Entry) → AllPairs Before (e ∷ entries) → NeverFallsFrom e.key (keys_of entries)
fronts_fall e [] h = tt
fronts_fall e (f ∷ entries) h = (rises e f (h 0 1 e (omega arith) (omega arith)), fronts_fall f entries (AllPairs-right Before (e ∷ []) (f ∷ entries) h))
  where
    rises : (e f : Entry) → Before e f → e.key ≤ f.key
    rises e f (inl up) = omega arith
    rises e f (inr same) = omega (arith, same.0)

pub NeverFall-ordered : (entries : List Entry) → AllPairs Before entries → NeverFall entries
NeverFall-ordered [] h = tt
NeverFall-ordered (e ∷ entries) h = (omega arith, fronts_fall e entries h)

pub ok_unless : {A B : Type 0} (P : A → Type 0) (Q : B → Type 0) (r : Result A B) → MatchResult r P Q → ((b : B) → Q b → ⊥) → IsOk r
ok_unless P Q (Ok a) h none = refl
ok_unless P Q (Err b) h none = absurd (none b h)
