use Rattle.std.proofs.Common.{ap, ◌∙◌}
use Rattle.pb_points.specs.Tally.{Held}
use Rattle.pb_accepted.specs.Rules.{Basis}
use Rattle.pb_accepted.specs.Counting.{counted}
use Rattle.pb_accepted.proofs.Rowed.{rowed_count}
use Rattle.pb_accepted.proofs.ledger.Ledger.points.Goals as goal

pub returns : goal.returns
returns g c =
    let inside = c.self.inside in
    let T : Basis = record { randoms = inside.recorder.table; rules = inside.rules } in
    rw (← c.self.view_is)
    (c.points.ensures ∙ ap (λ (h : Held). h.points) (c.self.invariant.counts c.args.key c.args.code) ∙ rowed_count inside.rules.least (counted T inside.games.entries) c.args.key c.args.code)
