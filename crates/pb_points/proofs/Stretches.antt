-- The book of a tally, one stretch of keys after another.
use Rattle.std.proofs.Common.{◌≡◌, ℕ, ◌<◌, ◌≤◌, ◌⊎◌, nat_le, Bool, true, false, if◌then◌else◌, Option, None, Some, List, [], ◌++◌, Contains, refl, sym, ap, subst, ◌∙◌, inl, inr, arith}
use Rattle.std.specs.Prelude.{IfSome}
use Rattle.std.proofs.lemmas.Bool.{cases_lt, leb-true, le-leb}
use Rattle.std.proofs.lemmas.Bool.Decides.{nat_tests}
use Rattle.std.proofs.lemmas.List.Elements.{All-contains, Contains-append_cases, Contains-append_left, Contains-append_right, filter-append, filter_passes}
use Rattle.pb_poly.specs.declared.book.Entry.{Entry}
use Rattle.pb_points.specs.declared.row.Row.{Row}
use Rattle.pb_points.specs.Group.{AddsBook}
use Rattle.pb_points.specs.Rows.{frequent, from}
use Rattle.pb_points.specs.Tally.{Content, Held, held_of}
use Rattle.pb_points.specs.TallyBook.{AddsBookOf, AreRows, is_within, stretch_of}
use Rattle.pb_board.proofs.Elements.{contains_filter, within_filter}
use Rattle.pb_points.proofs.Groups.{KeysBelow, adds_both, adds_nothing}

-- a row that occurs often enough is one of the rows
pub frequent_within : (least : ℕ) (rows : List Row) (r : Row) → Contains (frequent least rows) r → Contains rows r
frequent_within least rows = within_filter (λ q. nat_le least q.times) rows

-- ---- the keys of a stretch

pub above : (first : ℕ) (next : Option ℕ) (k : ℕ) → is_within first next k ≡ true → first ≤ k
above first None k e = leb-true first k e
above first (Some n) k e = grind (arith, nat_tests)

pub before : (first n k : ℕ) → is_within first (Some n) k ≡ true → k < n
before first n k e = grind (arith, nat_tests)

between : (first n k : ℕ) → first ≤ k → k < n → is_within first (Some n) k ≡ true
between first n k low high = grind (arith, nat_tests)

pub none_within : (k : ℕ) → is_within 0 (Some 0) k ≡ false
none_within k = grind (arith, nat_tests)

-- a key of the first of two stretches, or of the second, is one of both
pub in_first : (first : ℕ) (next : Option ℕ) (k : ℕ) → IfSome next (λ n. first < n) → is_within 0 (Some first) k ≡ true → is_within 0 next k ≡ true
in_first first None k onward e = le-leb 0 k (omega arith)
in_first first (Some n) k onward e = between 0 n k (omega arith) (omega (arith, before 0 first k e, onward))

pub in_second : (first : ℕ) (next : Option ℕ) (k : ℕ) → is_within first next k ≡ true → is_within 0 next k ≡ true
in_second first None k e = le-leb 0 k (omega arith)
in_second first (Some n) k e = between 0 n k (omega arith) (before first n k e)

pub in_either : (first : ℕ) (next : Option ℕ) (k : ℕ) → is_within 0 next k ≡ true → (is_within 0 (Some first) k ≡ true) ⊎ (is_within first next k ≡ true)
in_either first next k e = elim (cases_lt k first) [
  | inl lt ↦ inl (between 0 first k (omega arith) lt)
  | inr ge ↦ inr (by next e ge)
]
  where
    by : (next : Option ℕ) → is_within 0 next k ≡ true → first ≤ k → is_within first next k ≡ true
    by None e ge = le-leb first k ge
    by (Some n) e ge = between first n k ge (before 0 n k e)

-- ---- what is held of a stretch

-- what the test comes to
pub stretched : (content : Content) (first : ℕ) (next : Option ℕ) (k c : ℕ) (b : Bool) → is_within first next k ≡ b → stretch_of first next content k c ≡ (if b then content k c else None)
stretched content first next k c b e = ap (λ b. if b then content k c else None) e

pub held_within : (content : Content) (first : ℕ) (next : Option ℕ) (k c : ℕ) (h : Held) → stretch_of first next content k c ≡ Some h → (is_within first next k ≡ true) × (content k c ≡ Some h)
held_within content first next k c h is = by (is_within first next k) refl
  where
    by : (b : Bool) → is_within first next k ≡ b → (is_within first next k ≡ true) × (content k c ≡ Some h)
    by true e = (e, sym (stretched content first next k c true e) ∙ is)
    by false e = let no : None ≡ Some h = sym (stretched content first next k c false e) ∙ is in absurd cc

-- a content that holds nothing holds nothing in a stretch
pub stretch_none : (content : Content) (first : ℕ) (next : Option ℕ) (k c : ℕ) → content k c ≡ None → stretch_of first next content k c ≡ None
stretch_none content first next k c none = by (is_within first next k)
  where
    by : (b : Bool) → (if b then content k c else None) ≡ None
    by true = none
    by false = refl

-- the rows of the keys from the first one on
pub stretch_rows : (content : Content) (first : ℕ) (rows : List Row) → AreRows content rows → AreRows (stretch_of first None content) (from first rows)
stretch_rows content first rows are = λ r. (
  λ h.
      let high : nat_le first r.key ≡ true = All-contains (λ q. nat_le first q.key ≡ true) (from first rows) r (filter_passes (λ q. nat_le first q.key) rows) h in
      stretched content first None r.key r.code true high ∙ (are r).0 (within_filter (λ q. nat_le first q.key) rows r h),
  λ is.
      let here = held_within content first None r.key r.code (held_of r) is in
      contains_filter (λ q. nat_le first q.key) rows r ((are r).1 here.1) here.0,
)

-- ---- the book of a stretch

-- the book of the rows of a tally, of what occurs so often, is that of the tally
pub adds_of_rows : (content : Content) (least : ℕ) (rows : List Row) (old new : List Entry) → AreRows content rows → AddsBook (frequent least rows) old new → AddsBookOf content least old new
adds_of_rows content least rows old new are adds = record { rows = rows; are = are; book = adds.0; is = adds.2; added = adds.1 }

-- the book depends on what is held alone
pub same_content : (f g : Content) (least : ℕ) (old new : List Entry) → ((k c : ℕ) → f k c ≡ g k c) → AddsBookOf f least old new → AddsBookOf g least old new
same_content f g least old new same h = record {
  rows = h.rows;
  are = λ r. (λ here. sym (same r.key r.code) ∙ (h.are r).0 here, λ is. (h.are r).1 (same r.key r.code ∙ is));
  book = h.book;
  is = h.is;
  added = h.added;
}

pub adds_of_nothing : (content : Content) (least : ℕ) (old : List Entry) → ((k c : ℕ) → content k c ≡ None) → AddsBookOf content least old old
adds_of_nothing content least old none =
    adds_of_rows content least [] old old
    (λ r. (λ h. absurd (omega (arith, h.1)), λ is. let no : None ≡ Some (held_of r) = sym (none r.key r.code) ∙ is in absurd cc))
    (adds_nothing old)

module _ (content : Content) (least : ℕ) where
  -- before the first stretch
  pub starts : (old : List Entry) → AddsBookOf (stretch_of 0 (Some 0) content) least old old
  starts old = adds_of_nothing (stretch_of 0 (Some 0) content) least old (λ k c. stretched content 0 (Some 0) k c false (none_within k))

  pub goes_on : (first : ℕ) (next : Option ℕ) (old mid new : List Entry) → IfSome next (λ n. first < n) → AddsBookOf (stretch_of 0 (Some first) content) least old mid
      → AddsBookOf (stretch_of first next content) least mid new → AddsBookOf (stretch_of 0 next content) least old new
  goes_on first next old mid new onward a b =
      adds_of_rows (stretch_of 0 next content) least (a.rows ++ b.rows) old new (λ r. (
        λ h. elim (Contains-append_cases a.rows b.rows r h) [
          | inl x ↦ (let here = low r x in stretched content 0 next r.key r.code true (in_first first next r.key onward here.0) ∙ here.1)
          | inr y ↦ (let here = high r y in stretched content 0 next r.key r.code true (in_second first next r.key here.0) ∙ here.1)
        ],
        λ is.
            let here = held_within content 0 next r.key r.code (held_of r) is in
            elim (in_either first next r.key here.0) [
              | inl w ↦ Contains-append_left a.rows b.rows r ((a.are r).1 (stretched content 0 (Some first) r.key r.code true w ∙ here.1))
              | inr w ↦ Contains-append_right a.rows b.rows r ((b.are r).1 (stretched content first next r.key r.code true w ∙ here.1))
            ],
      ))
      (subst (λ D. AddsBook D old new) (sym (filter-append (λ r. nat_le least r.times) a.rows b.rows))
      (adds_both (frequent least a.rows) (frequent least b.rows) old mid new below (a.book, a.added, a.is) (b.book, b.added, b.is)))
    where
      low : (r : Row) → Contains a.rows r → (is_within 0 (Some first) r.key ≡ true) × (content r.key r.code ≡ Some (held_of r))
      low r x = held_within content 0 (Some first) r.key r.code (held_of r) ((a.are r).0 x)

      high : (r : Row) → Contains b.rows r → (is_within first next r.key ≡ true) × (content r.key r.code ≡ Some (held_of r))
      high r y = held_within content first next r.key r.code (held_of r) ((b.are r).0 y)

      apart : (r s : Row) → Contains a.rows r → Contains b.rows s → r.key < s.key
      apart r s x y = omega (arith, before 0 first r.key (low r x).0, above first next s.key (high s y).0)

      below : KeysBelow (frequent least a.rows) (frequent least b.rows)
      below r s x y = apart r s (frequent_within least a.rows r x) (frequent_within least b.rows s y)
