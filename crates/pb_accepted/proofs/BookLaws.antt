-- Laws of the book of plies that count.
use Rattle.std.proofs.Common.{◌≡◌, ℕ, ◌+◌, ◌<◌, ◌≤◌, ◌⊎◌, List, [], ◌∷◌, IsPermutation, refl, sym, ap, ◌∙◌, inl, inr, arith}
use Rattle.std.specs.Prelude.{sum_by}
use Rattle.std.specs.List.{flat_map}
use Rattle.std.proofs.lemmas.List.Sorted.{sum_by-IsPermutation}
use Rattle.std.proofs.lemmas.List.Sums.{sum_by-append, sum_by-cons}
use Rattle.pb_poly.specs.declared.book.Entry.{Entry}
use Rattle.pb_games.specs.Submissions.{Submission}
use Rattle.pb_points.specs.Weight.{scaled, Before}
use Rattle.pb_accepted.specs.Rules.{Basis}
use Rattle.pb_accepted.specs.Counting.{count, counted, times, IsGreatest, IsBook}
use Rattle.pb_accepted.specs.Accepting.{NoRepeats, SameMembers}
use Rattle.pb_accepted.specs.declared.ply_points.PlyPoints.{PlyPoints}
use Rattle.pb_accepted.proofs.GivenPoints.{counted_of, one, share}
use Rattle.pb_accepted.proofs.Members.{permutation_from_members}
use Rattle.pb_board.proofs.InOrder.{same_in_order}

-- ---- one book

pub before_itself : (e : Entry) → Before e e → ⊥
before_itself e (inl h) = omega arith
before_itself e (inr h) = by h.1
  where
    by : ((e.weight < e.weight) ⊎ ((e.weight ≡ e.weight) × (e.code < e.code))) → ⊥
    by (inl k) = omega arith
    by (inr k) = omega (arith, k.1)

pub before_both : (e f : Entry) → Before e f → Before f e → ⊥
before_both e f (inl h) (inl k) = omega arith
before_both e f (inl h) (inr k) = omega (arith, k.0)
before_both e f (inr h) (inl k) = omega (arith, h.0)
before_both e f (inr h) (inr k) = by h.1 k.1
  where
    by : ((f.weight < e.weight) ⊎ ((e.weight ≡ f.weight) × (e.code < f.code))) → ((e.weight < f.weight) ⊎ ((f.weight ≡ e.weight) × (f.code < e.code))) → ⊥
    by (inl a) (inl b) = omega arith
    by (inl a) (inr b) = omega (arith, b.0)
    by (inr a) (inl b) = omega (arith, a.0)
    by (inr a) (inr b) = omega (arith, a.1, b.1)

pub one_book : (G : List PlyPoints) (least : ℕ) (E F : List Entry) → IsBook G least E → IsBook G least F → E ≡ F
one_book G least E F h k = same_in_order Before before_itself before_both E F h.ordered k.ordered
    (λ e here. (k.members e).1 ((h.members e).0 here))
    (λ e here. (h.members e).1 ((k.members e).0 here))

-- ---- plies that have the same counts

module _ (least : ℕ) (G H : List PlyPoints) (counts : (k c : ℕ) → count G k c ≡ count H k c) (occur : (k c : ℕ) → times G k c ≡ times H k c) where
  same_often : (k c : ℕ) → least ≤ times G k c → least ≤ times H k c
  same_often k c o = omega (arith, o, occur k c)

  same_greatest : (k M : ℕ) → IsGreatest G least k M → IsGreatest H least k M
  same_greatest k M h = record {
    above = λ c o. omega (arith, counts k c, h.above c (omega (arith, o, occur k c)));
    met = (h.met.0, same_often k h.met.0 h.met.1, sym (counts k h.met.0) ∙ h.met.2);
  }

  same_weight : (k c w : ℕ) → ((M : ℕ) × IsGreatest G least k M × (w ≡ scaled (count G k c) M)) → (M : ℕ) × IsGreatest H least k M × (w ≡ scaled (count H k c) M)
  same_weight k c w h = (h.0, same_greatest k h.0 h.1, h.2 ∙ ap (λ n. scaled n h.0) (counts k c))

-- ---- lists with the same members

sum_by-flat_map : {X Y : Type 0} (f : Y → ℕ) (g : X → List Y) (xs : List X) → sum_by f (flat_map g xs) ≡ sum_by (λ x. sum_by f (g x)) xs
sum_by-flat_map f g [] = refl
sum_by-flat_map f g (x ∷ xs) = sum_by-append f (g x) (flat_map g xs) ∙ ap (λ n. sum_by f (g x) + n) (sum_by-flat_map f g xs) ∙ sym (sum_by-cons (λ y. sum_by f (g y)) x xs)

module _ (T : Basis) (S U : List Submission) (once : NoRepeats S) (each : NoRepeats U) (same : SameMembers S U) where
  reordered : IsPermutation S U
  reordered = permutation_from_members S U once each (λ s. (same s).0) (λ s. (same s).1)

  same_sum : (f : PlyPoints → ℕ) → sum_by f (counted T S) ≡ sum_by f (counted T U)
  same_sum f =
      sum_by-flat_map f (counted_of T) S ∙ sym (sum_by-IsPermutation (λ s. sum_by f (counted_of T s)) S U reordered)
      ∙ sym (sum_by-flat_map f (counted_of T) U)

  pub same_count : (k c : ℕ) → count (counted T S) k c ≡ count (counted T U) k c
  same_count k c = same_sum (share k c)

  same_times : (k c : ℕ) → times (counted T S) k c ≡ times (counted T U) k c
  same_times k c = same_sum (one k c)

  pub same_book : (least : ℕ) (E : List Entry) → IsBook (counted T S) least E → IsBook (counted T U) least E
  same_book least E book =
      let G = counted T S in
      let H = counted T U in
      let counts_back : (k c : ℕ) → count H k c ≡ count G k c = λ k c. sym (same_count k c) in
      let times_back : (k c : ℕ) → times H k c ≡ times G k c = λ k c. sym (same_times k c) in
      record {
        ordered = book.ordered;
        members = λ e. (
          (λ here. let m = (book.members e).0 here in (same_often least G H same_count same_times e.key e.code m.0, same_weight least G H same_count same_times e.key e.code e.weight m.1, m.2, m.3)),
          (λ m. (book.members e).1 (same_often least H G counts_back times_back e.key e.code m.0, same_weight least H G counts_back times_back e.key e.code e.weight m.1, m.2, m.3)),
        );
      }
