use Rattle.std.proofs.Common.{position, ap, sym, subst, ◌∙◌}
use Rattle.std.specs.List.{IsDistinct}
use Rattle.pb_points.specs.ListTally.{list_content}
use Rattle.pb_points.specs.Rows.{is_row, row_at, same_pair}
use Rattle.pb_points.proofs.ListRows.{IsDistinct-pushed, absent_found, makes_none, makes_pushed, none_of, not_there, index_there}
use Rattle.pb_points.proofs.list_tally.ListTallyTally.ensure.Goals as goal

pub invariant_of-self-2 : goal.invariant_of-self-2
invariant_of-self-2 c =
    let rows = c.self.inside.rows.items in
    let none = none_of c.position_of.result (sym c.is_some.ensures ∙ c.if-is_some.false) in
    let absent = sym (c.position_of.ensures ∙ ap (position (is_row c.args.key c.args.code)) c.deref.ensures.value) ∙ none in
    subst (IsDistinct same_pair) (sym c.in_ok-push.ensures.items) (IsDistinct-pushed rows c.args.key c.args.code c.self.invariant absent)

pub returns-clause-ok : goal.returns-clause-ok
returns-clause-ok c = rw (← c.self.view_is) (λ k d.
    let rows = c.self.inside.rows.items in
    let none = none_of c.position_of.result (sym c.is_some.ensures ∙ c.if-is_some.false) in
    let absent = sym (c.position_of.ensures ∙ ap (position (is_row c.args.key c.args.code)) c.deref.ensures.value) ∙ none in
    ap (λ l. list_content l k d) c.in_ok-push.ensures.items ∙ makes_pushed rows c.args.key c.args.code (absent_found rows c.args.key c.args.code absent) k d)

pub returns-then-is_some-clause-ok : goal.returns-then-is_some-clause-ok
returns-then-is_some-clause-ok c = rw (← c.self.view_is) (λ k d.
    let rows = c.self.inside.rows.items in
    let found = c.position_of.ensures ∙ ap (position (is_row c.args.key c.args.code)) c.deref.ensures.value in
    let there = index_there rows c.args.key c.args.code c.position_of.result found (sym c.is_some.ensures ∙ c.if-is_some.true) in
    makes_none rows c.args.key c.args.code (row_at rows there.0) there.1.found k d)

pub returns-in_err-push-clause-there : goal.returns-in_err-push-clause-there
returns-in_err-push-clause-there c = rw (← c.self.view_is) (λ there.
    let rows = c.self.inside.rows.items in
    let none = none_of c.position_of.result (sym c.is_some.ensures ∙ c.if-is_some.false) in
    let absent = sym (c.position_of.ensures ∙ ap (position (is_row c.args.key c.args.code)) c.deref.ensures.value) ∙ none in
    absurd (not_there rows c.args.key c.args.code (absent_found rows c.args.key c.args.code absent) there))
