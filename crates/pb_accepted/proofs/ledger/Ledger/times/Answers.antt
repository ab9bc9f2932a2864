use Rattle.std.proofs.Common.{◌≡◌, ◌+◌, ◌*◌, ◌≤◌, ap, arith, length, ◌∙◌}
use Rattle.pb_points.specs.Tally.{Held}
use Rattle.pb_accepted.specs.Rules.{Basis}
use Rattle.pb_accepted.specs.Counting.{counted, times}
use Rattle.pb_accepted.specs.Ledger.{lost, rowed}
use Rattle.pb_accepted.proofs.GivenPoints.{length-counted, times-le, times_parts}
use Rattle.pb_accepted.proofs.ledger.Ledger.times.Goals as goal

pub overflow_add-result : goal.overflow_add-result
overflow_add-result g c =
    let inside = c.self.inside in
    let T : Basis = record { randoms = inside.recorder.table; rules = inside.rules } in
    let G = counted T inside.games.entries in
    let k = c.args.key in
    let d = c.args.code in
    let rows : c.times.result ≡ times (rowed inside.rules.least G) k d = c.times.ensures ∙ ap (λ (h : Held). h.times) (c.self.invariant.counts k d) in
    let beside : c.lost_times.result ≡ times (lost inside.rules.least G) k d = c.lost_times.ensures ∙ ap (λ X. times X k d) (c.deref.ensures.value ∙ c.self.invariant.lost) in
    let many : length G ≤ length inside.games.entries * 1024 = length-counted T inside.games.entries c.self.invariant.rules.games in
    omega (arith, rows, beside, times_parts inside.rules.least G k d, times-le G k d, many, c.self.invariant.rules.room, c.self.invariant.rules.few)

pub returns : goal.returns
returns g c =
    let inside = c.self.inside in
    let T : Basis = record { randoms = inside.recorder.table; rules = inside.rules } in
    let G = counted T inside.games.entries in
    let k = c.args.key in
    let d = c.args.code in
    let rows : c.times.result ≡ times (rowed inside.rules.least G) k d = c.times.ensures ∙ ap (λ (h : Held). h.times) (c.self.invariant.counts k d) in
    let beside : c.lost_times.result ≡ times (lost inside.rules.least G) k d = c.lost_times.ensures ∙ ap (λ X. times X k d) (c.deref.ensures.value ∙ c.self.invariant.lost) in
    let all : c.times.result + c.lost_times.result ≡ times G k d = omega (arith, rows, beside, times_parts inside.rules.least G k d) in
    rw (← c.self.view_is) all
