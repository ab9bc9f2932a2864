-- The book of a stretch of the keys of one part.
use Rattle.std.proofs.Common.{◌≡◌, ℕ, ◌<◌, ◌≤◌, ◌^◌, ◌&&◌, ◌==◌, Bool, true, false, if◌then◌else◌, Option, None, Some, IsSome, List, length, refl, sym, ap, subst, ◌∙◌, inl, inr, arith}
use Rattle.std.specs.Prelude.{slice_get}
use Rattle.std.specs.Option.{option_and_then}
use Rattle.std.proofs.lemmas.Bool.{cases_eq, cases_lt}
use Rattle.std.proofs.lemmas.Bool.Decides.{nat_tests}
use Rattle.std.proofs.lemmas.Option.{slice_get_past, slice_get_within}
use Rattle.pb_points.specs.PartTally.{HoldsOwn, part_of, parts_content}
use Rattle.pb_points.specs.Tally.{Content, Held}
use Rattle.pb_points.specs.TallyBook.{is_within, stretch_of}
use Rattle.pb_points.proofs.PartRows.{at_part}
use Rattle.pb_points.proofs.Stretches.{stretch_none, stretched}

both_of : (b : Bool) (m n : ℕ) → m ≡ n → (b && (m == n)) ≡ b
both_of true m n e = grind (arith, nat_tests)
both_of false m n e = refl

none_of : (b : Bool) (m n : ℕ) → (m ≡ n → ⊥) → (b && (m == n)) ≡ false
none_of true m n other = grind (arith, nat_tests)
none_of false m n other = refl

module _ {T : Type 0} (content : T → Content) (parts : List T) where
  -- what has a key beyond the last part isn't held
  parts_past : (k c : ℕ) → length parts ≤ part_of k → parts_content content parts k c ≡ None
  parts_past k c past = ap (option_and_then (λ part. content part k c)) (slice_get_past parts (part_of k) past)

  -- without parts nothing is held
  pub no_parts : (first k c : ℕ) → length parts ≡ 0 → stretch_of first None (parts_content content parts) k c ≡ None
  no_parts first k c none = stretch_none (parts_content content parts) first None k c (parts_past k c (omega (arith, none)))

  -- what a part holds of a stretch is what all hold of it, as far as the part goes
  pub parted : (first : ℕ) (next end : Option ℕ) (part : T) → HoldsOwn content parts → length parts ≡ 256 → slice_get parts (part_of first) ≡ Some part
      → ((k : ℕ) → k < 2 ^ 64 → is_within first end k ≡ (is_within first next k && (part_of k == part_of first)))
      → (k c : ℕ) → stretch_of first next (content part) k c ≡ stretch_of first end (parts_content content parts) k c
  parted first next end part own many here keys k c = elim (cases_eq (part_of k) (part_of first)) [
    | inl same ↦
        let at : parts_content content parts k c ≡ content part k c = at_part content parts k c part (ap (slice_get parts) same ∙ here) in
        let within : is_within first end k ≡ is_within first next k = keys k (fits same) ∙ both_of (is_within first next k) (part_of k) (part_of first) same in
        λ i. if sym within i then sym at i else None
    | inr other ↦ stretch_none (content part) first next k c (own_none other (content part k c) refl) ∙ sym (outside other)
  ]
    where
      few : part_of first < 256
      few = omega (arith, slice_get_within parts (part_of first) part here, many)

      fits : part_of k ≡ part_of first → k < 2 ^ 64
      fits same = omega (arith, few, same)

      own_none : (part_of k ≡ part_of first → ⊥) → (o : Option Held) → content part k c ≡ o → content part k c ≡ None
      own_none other None e = e
      own_none other (Some h) e = absurd (other (own (part_of first) k c part here (subst IsSome (sym e) refl)))

      outside : (part_of k ≡ part_of first → ⊥) → stretch_of first end (parts_content content parts) k c ≡ None
      outside other = elim (cases_lt k (2 ^ 64)) [
        | inl lt ↦ stretched (parts_content content parts) first end k c false (keys k lt ∙ none_of (is_within first next k) (part_of k) (part_of first) other)
        | inr ge ↦ stretch_none (parts_content content parts) first end k c (parts_past k c (omega (arith, many, ge)))
      ]
