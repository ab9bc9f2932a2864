-- A weight comes of points.
use Rattle.std.proofs.Common.{◌≡◌, ℕ, zero, suc, ◌*◌, ◌/◌, ◌≤◌, nat_le, Bool, true, false, cond, refl, ap, arith}
use Rattle.std.proofs.Math.Nat.{zero-div}
use Rattle.pb_points.specs.Weight.{scaled}

pub scaled_some : (n M : ℕ) → 1 ≤ scaled n M → 1 ≤ n
scaled_some zero M h = absurd (by (nat_le M 65535) refl)
  where
    by : (b : Bool) → nat_le M 65535 ≡ b → ⊥
    by true e = omega (arith, ap (λ b. cond b 0 ((0 * 65535) / M)) e, h)
    by false e = omega (arith, ap (λ b. cond b 0 ((0 * 65535) / M)) e, zero-div M, h)
scaled_some (suc n) M h = omega arith
