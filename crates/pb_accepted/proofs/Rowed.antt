-- The book of the plies that have rows is that of all plies.
use Rattle.std.proofs.Common.{◌≡◌, ℕ, ◌≤◌, ◌==◌, Bool, true, false, not, List, [], ◌∷◌, Contains, get_or, refl, ap, subst, sym, ◌∙◌, ◌&&◌, cond, if◌then◌else◌, inl, inr, arith}
use Rattle.std.proofs.lemmas.Bool.{cases_lt}
use Rattle.std.proofs.lemmas.Bool.Decides.{nat_tests}
use Rattle.std.proofs.lemmas.List.Elements.{filter_passes}
use Rattle.std.proofs.lemmas.List.Sums.{sum_by-cons, sum_by-le}
use Rattle.pb_poly.specs.declared.book.Entry.{Entry}
use Rattle.pb_points.specs.Tally.{is_pair}
use Rattle.pb_points.specs.Weight.{scaled}
use Rattle.pb_points.proofs.Scaled.{scaled_some}
use Rattle.pb_accepted.specs.Counting.{IsBook, IsGreatest, count, times}
use Rattle.pb_accepted.specs.Ledger.{is_lost, lost, rowed}
use Rattle.pb_accepted.specs.declared.ply_points.PlyPoints.{PlyPoints}
use Rattle.pb_accepted.proofs.GivenPoints.{count_parts, one, share, share-le, times_parts}

lost_points : (least : ℕ) (p : PlyPoints) → is_lost least p ≡ true → p.points ≡ 0
lost_points least p h = grind (arith, nat_tests)

-- what stands beside the rows counts nothing
lost_count : (least : ℕ) (G : List PlyPoints) (k c : ℕ) → count (lost least G) k c ≡ 0
lost_count least G k c =
    let none = sum_by-le (share k c) 0 (lost least G) (λ j d lt. omega (arith, share-le k c (get_or (lost least G) j d), lost_points least (get_or (lost least G) j d) (filter_passes (is_lost least) G j d lt))) in
    omega (arith, none)

pub rowed_count : (least : ℕ) (G : List PlyPoints) (k c : ℕ) → count (rowed least G) k c ≡ count G k c
rowed_count least G k c = omega (arith, count_parts least G k c, lost_count least G k c)

-- what counts something occurs
occurs : (G : List PlyPoints) (k c : ℕ) → 1 ≤ count G k c → 1 ≤ times G k c
occurs [] k c some = absurd (omega (arith, some))
occurs (p ∷ G) k c some = by (is_pair p.key p.code k c) refl (occurs G k c)
  where
    by : (b : Bool) → is_pair p.key p.code k c ≡ b → (1 ≤ count G k c → 1 ≤ times G k c) → 1 ≤ times (p ∷ G) k c
    by true e rest = omega (arith, sum_by-cons (one k c) p G, own e)
      where
        own : is_pair p.key p.code k c ≡ true → 1 ≤ one k c p
        own is = subst (λ b. 1 ≤ cond b 1 0) (sym is) (omega arith)
    by false e rest =
        let none : share k c p ≡ 0 = ap (λ b. if b then p.points else 0) e in
        omega (arith, sum_by-cons (one k c) p G, rest (omega (arith, some, sum_by-cons (share k c) p G, none)))

-- where more than one occurrence is asked for, all plies have rows
all_rowed : (least : ℕ) (G : List PlyPoints) → (least == 1) ≡ false → rowed least G ≡ G
all_rowed least [] more = refl
all_rowed least (p ∷ G) more =
    ap (λ b. cond (not (b && (p.points == 0))) (p ∷ rowed least G) (rowed least G)) more ∙ ap (λ l. p ∷ l) (all_rowed least G more)

-- ---- where one occurrence is enough

module _ (G : List PlyPoints) where
  few : (k c : ℕ) → times (rowed 1 G) k c ≤ times G k c
  few k c = omega (arith, times_parts 1 G k c)

  pointed : (k c : ℕ) → 1 ≤ count G k c → 1 ≤ times (rowed 1 G) k c
  pointed k c some = occurs (rowed 1 G) k c (omega (arith, some, rowed_count 1 G k c))

  greatest_of_all : (k M : ℕ) → IsGreatest (rowed 1 G) 1 k M → IsGreatest G 1 k M
  greatest_of_all k M g = record { above = above; met = met }
    where
      above : (c : ℕ) → 1 ≤ times G k c → count G k c ≤ M
      above c occurring = elim (cases_lt 0 (count G k c)) [
        | inl some ↦ omega (arith, g.above c (pointed k c some), rowed_count 1 G k c)
        | inr none ↦ omega (arith, none)
      ]

      met : (c : ℕ) × (1 ≤ times G k c) × (count G k c ≡ M)
      met =
          let enough : 1 ≤ times G k g.met.0 = omega (arith, g.met.1, few k g.met.0) in
          let is : count G k g.met.0 ≡ M = omega (arith, g.met.2, rowed_count 1 G k g.met.0) in
          (g.met.0, enough, is)

  greatest_of_rowed : (k M : ℕ) → 1 ≤ M → IsGreatest G 1 k M → IsGreatest (rowed 1 G) 1 k M
  greatest_of_rowed k M some g = record {
    above = λ c occurring. omega (arith, g.above c (omega (arith, occurring, few k c)), rowed_count 1 G k c);
    met = (g.met.0, pointed k g.met.0 (omega (arith, some, g.met.2)), rowed_count 1 G k g.met.0 ∙ g.met.2);
  }

  book_of_all : (E : List Entry) → IsBook (rowed 1 G) 1 E → IsBook G 1 E
  book_of_all E book = record { ordered = book.ordered; members = λ e. (to e, from e) }
    where
      to : (e : Entry) → Contains E e → (1 ≤ times G e.key e.code) × ((M : ℕ) × IsGreatest G 1 e.key M × (e.weight ≡ scaled (count G e.key e.code) M)) × (1 ≤ e.weight) × (e.learn ≡ 0)
      to e here =
          let m = (book.members e).0 here in
          let enough : 1 ≤ times G e.key e.code = omega (arith, m.0, few e.key e.code) in
          (enough, (m.1.0, greatest_of_all e.key m.1.0 m.1.1, m.1.2 ∙ ap (λ n. scaled n m.1.0) (rowed_count 1 G e.key e.code)), m.2, m.3)

      from : (e : Entry) → (1 ≤ times G e.key e.code) × ((M : ℕ) × IsGreatest G 1 e.key M × (e.weight ≡ scaled (count G e.key e.code) M)) × (1 ≤ e.weight) × (e.learn ≡ 0) → Contains E e
      from e m =
          let M = m.1.0 in
          let some : 1 ≤ count G e.key e.code = scaled_some (count G e.key e.code) M (omega (arith, m.1.2, m.2)) in
          let much : 1 ≤ M = omega (arith, some, m.1.1.above e.code m.0) in
          (book.members e).1 (pointed e.key e.code some, (M, greatest_of_rowed e.key M much m.1.1, m.1.2 ∙ ap (λ n. scaled n M) (sym (rowed_count 1 G e.key e.code))), m.2, m.3)

pub rowed_book : (G : List PlyPoints) (least : ℕ) (E : List Entry) → IsBook (rowed least G) least E → IsBook G least E
rowed_book G least E book = by (least == 1) refl
  where
    by : (b : Bool) → (least == 1) ≡ b → IsBook G least E
    by true once =
        let is : 1 ≡ least = grind (arith, nat_tests) in
        subst (λ n. IsBook G n E) is (book_of_all G E (subst (λ n. IsBook (rowed n G) n E) (sym is) book))
    by false more = subst (λ X. IsBook X least E) (all_rowed least G more) book
