use Rattle.std.proofs.Common.{ℕ, ap, ap₂}
use Rattle.std.proofs.lemmas.Bool.Decides.{Decides-and, Decides-like, Decides-eqb}
use Rattle.pb_points.specs.declared.row.Row.{Row}
use Rattle.pb_points.proofs.laws.equal_rows.Goals as goal

pub returns-clause-equal : goal.returns-clause-equal
returns-clause-equal c = λ r s. Decides-like _
    (λ e. ap₂ (λ (p q : ℕ × ℕ). record { key = p.0; code = p.1; points = q.0; times = q.1 })
    (ap₂ (λ (k c : ℕ). (k, c)) e.0 e.1.0) (ap₂ (λ (n t : ℕ). (n, t)) e.1.1.0 e.1.1.1))
    (λ e. (ap (λ (x : Row). x.key) e, (ap (λ (x : Row). x.code) e, (ap (λ (x : Row). x.points) e, ap (λ (x : Row). x.times) e))))
    (Decides-and _ _ (Decides-eqb r.key s.key) (Decides-and _ _ (Decides-eqb r.code s.code)
    (Decides-and _ _ (Decides-eqb r.points s.points) (Decides-eqb r.times s.times))))

pub returns-clause-clone : goal.returns-clause-clone
returns-clause-clone c = λ r s same. same
