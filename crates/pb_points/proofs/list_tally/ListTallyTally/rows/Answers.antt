use Rattle.std.proofs.Common.{IsPermutation, subst, ◌∙◌}
use Rattle.pb_points.proofs.ListRows.{rows_each}
use Rattle.pb_points.proofs.Pairs.{rise_apart}
use Rattle.pb_points.proofs.list_tally.ListTallyTally.rows.Goals as goal

pub returns-clause-each : goal.returns-clause-each
returns-clause-each c = rw (← c.self.view_is)
    (rows_each c.self.inside.rows.items c.sort_rows.new.rows.items c.self.invariant
    (subst (λ rows. IsPermutation rows c.sort_rows.new.rows.items) (c.in_ok-rows.ensures.items ∙ c.deref.ensures.value) c.sort_rows.ensures.permutation))

pub returns-clause-order : goal.returns-clause-order
returns-clause-order c =
    rise_apart c.self.inside.rows.items c.sort_rows.new.rows.items c.self.invariant
    (subst (λ rows. IsPermutation rows c.sort_rows.new.rows.items) (c.in_ok-rows.ensures.items ∙ c.deref.ensures.value) c.sort_rows.ensures.permutation)
    c.in_ok-sort_rows.ensures.sorted
