use Rattle.std.proofs.Common.{◌+◌, arith, rules, sym, ap, subst, ◌∙◌}
use Rattle.std.proofs.lemmas.Grind.{common_steps}
use Rattle.pb_points.specs.Rows.{IsTop, row_at}
use Rattle.pb_points.specs.TallyBook.{AddsSome}
use Rattle.pb_points.proofs.Tops.{Contains-row_at}
use Rattle.pb_points.proofs.Weighing.{AddsWeighed, adds_book, adds_keep, adds_push, group_top}
use Rattle.pb_points.proofs.book.push_group.Goals as goal
use Rattle.pb_points.proofs.book.push_group.Goals.{in-Some+in_ok-push, in_default}

pub loop-row-preserved : goal.loop-row-preserved
loop-row-preserved c =
    let rows = c.args.group.now in
    let i = c.loop-row.row-index in
    let old = c.args.entries.now.items in
    let new = c.loop-row.entries.items in
    let M = c.greatest_of-greatest.result in
    let top : IsTop rows (row_at rows i).key M = group_top rows c.requires M c.greatest_of-greatest.ensures.above c.greatest_of-greatest.ensures.met (row_at rows i) (Contains-row_at rows i c.loop-row-test.true) in
    elim c.match-entry_of.branch [
      | in-Some+in_ok-push w ↦
          subst (AddsWeighed rows (i + 1) old) (sym (ap (λ v. v.items) w.entries-is ∙ w.in_ok-push.ensures.items))
          (adds_push rows c.requires i c.loop-row-test.true M top old new c.loop-row.invariant w.in-Some.entry w.in-Some.ensures)
      | in_default w ↦
          subst (AddsWeighed rows (i + 1) old) (sym (ap (λ v. v.items) w.entries-is))
          (adds_keep rows c.requires i c.loop-row-test.true M top old new c.loop-row.invariant w.in_default.ensures)
    ]

pub returns-in_err-push-clause-err : goal.returns-in_err-push-clause-err
returns-in_err-push-clause-err c =
    let some : AddsSome c.args.entries.now.items c.push.new.self.items =
    (c.loop-row.invariant.added, c.in_err-push.ensures.items ∙ c.loop-row.invariant.split) in
    search rules

pub returns-clause-ok : goal.returns-clause-ok
returns-clause-ok c =
    let rows = c.args.group.now in
    adds_book rows c.args.entries.now.items c.loop-row.entries.items _ c.len-start.result (search rules)
    (subst (λ n. AddsWeighed rows n c.args.entries.now.items c.loop-row.entries.items) (omega arith) c.loop-row.invariant) (grind (arith, common_steps)) (grind (arith, common_steps))
