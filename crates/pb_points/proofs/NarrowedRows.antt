-- Rows made narrow ones, one after the other.
use Rattle.std.proofs.Common.{◌≡◌, ℕ, ◌+◌, ◌<◌, ◌≤◌, if◌then◌else◌, Some, None, List, [], ◌∷◌, ◌++◌, length, take, AllPairs, refl, sym, ap, ◌∙◌, inl, inr, ◌⊎◌, arith, subst}
use Rattle.std.specs.Prelude.{nat_lt, sum_by}
use Rattle.std.proofs.Math.ListN.{length-append}
use Rattle.std.proofs.lemmas.Bool.{cases_lt}
use Rattle.std.proofs.lemmas.Bool.Decides.{nat_tests}
use Rattle.std.proofs.lemmas.List.{get_or_append_left, get_or-append-add, take_all}
use Rattle.std.proofs.lemmas.List.Sums.{sum_by_push, sum_by-append, sum_by_more}
use Rattle.pb_points.specs.declared.row.Row.{Row}
use Rattle.pb_points.specs.Bag.{count_of, gain, points_of, times_of}
use Rattle.pb_points.specs.Rows.{IsBelow}
use Rattle.pb_points.specs.NarrowTally.{AreNarrowed, Spills}
use Rattle.pb_points.proofs.AddedRows.{one_other, other_row, sum_none}
use Rattle.pb_points.proofs.BagRows.{new_row, of_sums, one, one_of, row_at, total_pushed}
use Rattle.pb_points.proofs.NarrowSums.{spills_more, spills_none, spills_pushed}
use Rattle.pb_points.proofs.Pairs.{is_pair_itself}

-- the first i rows are narrowed; a wide one is one of them
pub record Narrowing (sums narrow wide : List Row) (i : ℕ) : Type 0 where
  pub points : (k c : ℕ) → points_of (narrow ++ wide) k c ≡ points_of (take i sums) k c
  pub times : (k c : ℕ) → times_of (narrow ++ wide) k c ≡ times_of (take i sums) k c
  pub some : (k c : ℕ) → nat_lt 0 (count_of (narrow ++ wide) k c) ≡ nat_lt 0 (count_of (take i sums) k c)
  pub many : length narrow ≡ i
  pub spills : Spills narrow wide
  pub among : (j : ℕ) → j < length wide → (m : ℕ) × (m < i) × (row_at sums m ≡ row_at wide j)

pub narrowing_starts : (sums : List Row) → Narrowing sums [] [] 0
narrowing_starts sums = record { points = λ k c. refl; times = λ k c. refl; some = λ k c. refl; many = refl; spills = spills_none; among = λ j lt. absurd (omega arith) }

some_next : (a b n : ℕ) → nat_lt 0 a ≡ nat_lt 0 b → nat_lt 0 (a + n) ≡ nat_lt 0 (b + n)
some_next a b n e = grind (arith, nat_tests)

some_twice : (a b n : ℕ) → nat_lt 0 a ≡ nat_lt 0 b → nat_lt 0 (a + n + n) ≡ nat_lt 0 (b + n)
some_twice a b n e = grind (arith, nat_tests)

next_sum : (f : Row → ℕ) (sums : List Row) (i : ℕ) → i < length sums → sum_by f (take (i + 1) sums) ≡ sum_by f (take i sums) + f (row_at sums i)
next_sum f sums i lt = sum_by_more f sums i (new_row 0 0) lt

-- the next one is narrow
pub narrowing_narrow : (sums narrow wide : List Row) (i : ℕ) (row : Row) → i < length sums → row ≡ row_at sums i → Narrowing sums narrow wide i → Narrowing sums (narrow ++ row ∷ []) wide (i + 1)
narrowing_narrow sums narrow wide i row lt is p = subst (λ r. Narrowing sums (narrow ++ r ∷ []) wide (i + 1)) (sym is) (record {
  points = λ k c. omega (arith, sum (gain (λ r. r.points) k c), p.points k c, next_sum (gain (λ r. r.points) k c) sums i lt);
  times = λ k c. omega (arith, sum (gain (λ r. r.times) k c), p.times k c, next_sum (gain (λ r. r.times) k c) sums i lt);
  some = λ k c. ap (nat_lt 0) (sum (one k c)) ∙ some_next (count_of (narrow ++ wide) k c) (count_of (take i sums) k c) (one k c s) (p.some k c) ∙ ap (nat_lt 0) (sym (next_sum (one k c) sums i lt));
  many = omega (arith, p.many, length-append narrow (s ∷ []));
  spills = spills_more narrow (narrow ++ s ∷ []) wide (λ a b. omega (arith, sum_by_push (one a b) narrow s)) p.spills;
  among = λ j within. let m = p.among j within in (m.0, omega (arith, m.1), m.2);
})
  where
    s : Row
    s = row_at sums i

    sum : (f : Row → ℕ) → sum_by f ((narrow ++ s ∷ []) ++ wide) ≡ sum_by f (narrow ++ wide) + f s
    sum f = omega (arith, sum_by-append f (narrow ++ s ∷ []) wide, sum_by_push f narrow s, sum_by-append f narrow wide)

-- the next one isn't narrow
pub narrowing_wide : (sums narrow wide : List Row) (i : ℕ) → AllPairs IsBelow sums → i < length sums → Narrowing sums narrow wide i
    → Narrowing sums (narrow ++ new_row (row_at sums i).key (row_at sums i).code ∷ []) (wide ++ row_at sums i ∷ []) (i + 1)
narrowing_wide sums narrow wide i rise lt p = record {
  points = λ k c. omega (arith, total (gain (λ r. r.points) k c), total_pushed (λ r. r.points) narrow none k c refl, sum_by-append (gain (λ r. r.points) k c) narrow wide, p.points k c, next_sum (gain (λ r. r.points) k c) sums i lt);
  times = λ k c. omega (arith, total (gain (λ r. r.times) k c), total_pushed (λ r. r.times) narrow none k c refl, sum_by-append (gain (λ r. r.times) k c) narrow wide, p.times k c, next_sum (gain (λ r. r.times) k c) sums i lt);
  some = λ k c.
      ap (nat_lt 0) (twice k c) ∙ some_twice (count_of (narrow ++ wide) k c) (count_of (take i sums) k c) (one k c s) (p.some k c) ∙ ap (nat_lt 0) (sym (next_sum (one k c) sums i lt));
  many = omega (arith, p.many, length-append narrow (none ∷ []));
  spills = spills_pushed (narrow ++ none ∷ []) wide s
      (sum_none (one s.key s.code) wide (λ j within. let m = p.among j within in one_other s.key s.code (row_at wide j) (λ key code.
      other_row sums i m.0 rise lt (omega (arith, m.1, lt)) (λ e. omega (arith, e, m.1)) (ap (λ (r : Row). r.key) m.2 ∙ key) (ap (λ (r : Row). r.code) m.2 ∙ code))))
      (omega (arith, sum_by_push (one s.key s.code) narrow none, one_of s.key s.code none (is_pair_itself s.key s.code)))
      (spills_more narrow (narrow ++ none ∷ []) wide (λ a b. omega (arith, sum_by_push (one a b) narrow none)) p.spills);
  among = λ j within. among j within (cases_lt j (length wide));
}
  where
    s : Row
    s = row_at sums i

    none : Row
    none = new_row s.key s.code

    total : (f : Row → ℕ) → sum_by f ((narrow ++ none ∷ []) ++ (wide ++ s ∷ [])) ≡ sum_by f (narrow ++ none ∷ []) + (sum_by f wide + f s)
    total f = omega (arith, sum_by-append f (narrow ++ none ∷ []) (wide ++ s ∷ []), sum_by_push f wide s)

    twice : (k c : ℕ) → count_of ((narrow ++ none ∷ []) ++ (wide ++ s ∷ [])) k c ≡ count_of (narrow ++ wide) k c + one k c s + one k c s
    twice k c = let same : one k c none ≡ one k c s = refl in omega (arith, total (one k c), sum_by_push (one k c) narrow none, sum_by-append (one k c) narrow wide, same)

    among : (j : ℕ) → j < length (wide ++ s ∷ []) → (j < length wide) ⊎ (length wide ≤ j) → (m : ℕ) × (m < i + 1) × (row_at sums m ≡ row_at (wide ++ s ∷ []) j)
    among j within (inl low) = let m = p.among j low in (m.0, omega (arith, m.1), m.2 ∙ sym (get_or_append_left wide (s ∷ []) (new_row 0 0) j low))
    among j within (inr high) =
        let at : j ≡ length wide + 0 = omega (arith, within, length-append wide (s ∷ [])) in
        (i, omega arith, sym (ap (λ n. row_at (wide ++ s ∷ []) n) at ∙ get_or-append-add wide (s ∷ []) 0 (new_row 0 0)))

pub narrowing_ends : (sums narrow wide : List Row) (i : ℕ) → length sums ≤ i → i ≤ length sums → Narrowing sums narrow wide i → AreNarrowed sums narrow wide
narrowing_ends sums narrow wide i end most p =
    let all : take i sums ≡ sums = take_all i sums end in
    record {
      same = λ k c.
          (λ j. of_sums (count_of (narrow ++ wide) k c) ((p.points k c ∙ ap (λ l. points_of l k c) all) j) ((p.times k c ∙ ap (λ l. times_of l k c) all) j))
          ∙ ap (λ b. if b then Some (record { points = points_of sums k c; times = times_of sums k c }) else None) (p.some k c ∙ ap (λ l. nat_lt 0 (count_of l k c)) all);
      many = omega (arith, p.many);
      spills = p.spills;
    }
