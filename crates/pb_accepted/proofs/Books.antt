-- The book of the rows of a tally that occur often enough is the book of the plies that it counts,
-- also of some of the keys alone.
use Rattle.std.proofs.Common.{◌≡◌, ℕ, ◌≤◌, ◌↔◌, Option, Some, None, unwrap_or, List, AllPairs, Contains, refl, sym, ap, subst, ◌∙◌, arith}
use Rattle.pb_poly.specs.declared.book.Entry.{Entry}
use Rattle.pb_points.specs.declared.row.Row.{Row}
use Rattle.pb_points.specs.Rows.{IsTop, Gives, IsBookOfRows}
use Rattle.pb_points.specs.Tally.{Content, Held, held_of, nothing}
use Rattle.pb_points.specs.Weight.{Before, scaled}
use Rattle.pb_accepted.specs.Counting.{count, times, IsGreatest, IsBook}
use Rattle.pb_accepted.specs.Ledger.{Tallies}
use Rattle.pb_accepted.specs.declared.ply_points.PlyPoints.{PlyPoints}

-- the entries are those of the book whose keys are these
pub record IsBookWithin (G : List PlyPoints) (least : ℕ) (W : ℕ → Type 0) (E : List Entry) : Type 0 where
  pub ordered : AllPairs Before E
  pub members : (e : Entry) → Contains E e ↔ (W e.key × (least ≤ times G e.key e.code) × ((M : ℕ) × IsGreatest G least e.key M × (e.weight ≡ scaled (count G e.key e.code) M)) × (1 ≤ e.weight) × (e.learn ≡ 0))

-- ---- rows beside counts

-- `D` are the rows of the tally that occur often enough, of these keys
module _ (G : List PlyPoints) (least : ℕ) (f : Content) (D : List Row) (W : ℕ → Type 0)
    (some : 1 ≤ least)
    (counts : Tallies f G)
    (each : (r : Row) → Contains D r ↔ (W r.key × (f r.key r.code ≡ Some (held_of r)) × (least ≤ r.times))) where
  held_so : (r : Row) → Contains D r → held_of r ≡ record { points = count G r.key r.code; times = times G r.key r.code }
  held_so r h = ap (λ o. unwrap_or o nothing) (sym ((each r).0 h).1) ∙ counts r.key r.code

  row_counts : (r : Row) → Contains D r → r.points ≡ count G r.key r.code
  row_counts r h = ap (λ (x : Held). x.points) (held_so r h)

  -- the rows are just those of what occurs
  row_occurs : (r : Row) → Contains D r → least ≤ times G r.key r.code
  row_occurs r h = omega (arith, ((each r).0 h).2, ap (λ (x : Held). x.times) (held_so r h))

  row_of : (k c : ℕ) → W k → least ≤ times G k c → (r : Row) × Contains D r × (r.key ≡ k) × (r.code ≡ c)
  row_of k c within o = by (f k c) refl
    where
      by : (x : Option Held) → f k c ≡ x → (r : Row) × Contains D r × (r.key ≡ k) × (r.code ≡ c)
      by None e =
          let never : times G k c ≡ 0 = ap (λ (x : Held). x.times) (sym (counts k c) ∙ ap (λ o. unwrap_or o nothing) e) in
          absurd (omega (arith, o, some, never))
      by (Some x) e =
          let r : Row = record { key = k; code = c; points = x.points; times = x.times } in
          let often : x.times ≡ times G k c = ap (λ (h : Held). h.times) (sym (ap (λ o. unwrap_or o nothing) e) ∙ counts k c) in
          (r, (each r).1 (within, e, omega (arith, o, often)), refl, refl)

  greatest_from_top : (k M : ℕ) → W k → IsTop D k M → IsGreatest G least k M
  greatest_from_top k M within top = record { above = above; met = met }
    where
      above : (c : ℕ) → least ≤ times G k c → count G k c ≤ M
      above c o =
          let w = row_of k c within o in
          let e = row_counts w.0 w.1 ∙ (λ i. count G (w.2 i) (w.3 i)) in
          omega (arith, top.above w.0 w.1 w.2, e)

      met : (c : ℕ) × (least ≤ times G k c) × (count G k c ≡ M)
      met =
          let w = top.met in (
            w.0.code,
            subst (λ x. least ≤ times G x w.0.code) w.2 (row_occurs w.0 w.1),
            ap (λ x. count G x w.0.code) (sym w.2) ∙ sym (row_counts w.0 w.1) ∙ w.3,
          )

  top_from_greatest : (k M : ℕ) → W k → IsGreatest G least k M → IsTop D k M
  top_from_greatest k M within g = record { above = above; met = met }
    where
      above : (r : Row) → Contains D r → r.key ≡ k → r.points ≤ M
      above r h e =
          let n = row_counts r h ∙ ap (λ x. count G x r.code) e in
          omega (arith, n, g.above r.code (subst (λ x. least ≤ times G x r.code) e (row_occurs r h)))

      met : (r : Row) × Contains D r × (r.key ≡ k) × (r.points ≡ M)
      met =
          let w = row_of k g.met.0 within g.met.1 in
          (w.0, w.1, w.2, row_counts w.0 w.1 ∙ (λ i. count G (w.2 i) (w.3 i)) ∙ g.met.2)

  pub book_within : (E : List Entry) → IsBookOfRows D E → IsBookWithin G least W E
  book_within E h = record { ordered = h.ordered; members = λ e. (to e, λ p. (h.members e).1 (from e p)) }
    where
      to : (e : Entry) → Contains E e → W e.key × (least ≤ times G e.key e.code) × ((M : ℕ) × IsGreatest G least e.key M × (e.weight ≡ scaled (count G e.key e.code) M)) × (1 ≤ e.weight) × (e.learn ≡ 0)
      to e here =
          let w = (h.members e).0 here in
          let r = w.0 in
          let gives = w.2 in
          let within = ((each r).0 w.1).0 in
          let n = row_counts r w.1 ∙ (λ i. count G (sym gives.key i) (sym gives.code i)) in
          let M = gives.greatest in
          let o : least ≤ times G e.key e.code = subst (λ k. least ≤ times G k e.code) (sym gives.key) (subst (λ x. least ≤ times G r.key x) (sym gives.code) (row_occurs r w.1)) in (
            subst W (sym gives.key) within,
            o,
            (M, subst (λ k. IsGreatest G least k M) (sym gives.key) (greatest_from_top r.key M within gives.top), gives.weight ∙ ap (λ x. scaled x M) n),
            gives.some,
            gives.learn,
          )

      from : (e : Entry) → W e.key × (least ≤ times G e.key e.code) × ((M : ℕ) × IsGreatest G least e.key M × (e.weight ≡ scaled (count G e.key e.code) M)) × (1 ≤ e.weight) × (e.learn ≡ 0) → (r : Row) × Contains D r × Gives D r e
      from e p =
          let M = p.2.0 in
          let w = row_of e.key e.code p.0 p.1 in
          let n : w.0.points ≡ count G e.key e.code = row_counts w.0 w.1 ∙ (λ i. count G (w.2 i) (w.3 i)) in (
            w.0,
            w.1,
            record {
              greatest = M;
              top = subst (λ k. IsTop D k M) (sym w.2) (top_from_greatest e.key M p.0 p.2.1);
              key = sym w.2;
              code = sym w.3;
              weight = p.2.2 ∙ ap (λ x. scaled x M) (sym n);
              some = p.3;
              learn = p.4;
            },
          )

-- of all keys it is the book
pub IsBook-rows : (G : List PlyPoints) (least : ℕ) (f : Content) (D : List Row) → 1 ≤ least → Tallies f G
    → ((r : Row) → Contains D r ↔ ((f r.key r.code ≡ Some (held_of r)) × (least ≤ r.times))) → (E : List Entry) → IsBookOfRows D E → IsBook G least E
IsBook-rows G least f D some counts each E h =
    let all = book_within G least f D (λ k. Unit {0}) some counts (λ r. (λ here. let p = (each r).0 here in (tt, p.0, p.1), λ is. (each r).1 (is.1, is.2))) E h in
    record { ordered = all.ordered; members = λ e. (λ here. let m = (all.members e).0 here in (m.1, m.2, m.3, m.4), λ m. (all.members e).1 (tt, m.0, m.1, m.2, m.3)) }
