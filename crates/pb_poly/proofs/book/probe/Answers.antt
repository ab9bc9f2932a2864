use Rattle.std.proofs.Common.{◌∙◌, List, [], ap, sym, subst, arith}
use Rattle.std.proofs.lemmas.List.{append-nil, take_all}
use Rattle.pb_poly.specs.declared.book.Entry.{Entry}
use Rattle.pb_poly.specs.Found.{Found}
use Rattle.pb_poly.proofs.Finding.{Found-here, Found-more, Found-not, Found-under, is_under}
use Rattle.pb_poly.proofs.book.probe.Goals as goal
use Rattle.pb_poly.proofs.book.probe.Goals.{in-Some+in_ok-push, in_default}

pub loop-entry-preserved : goal.loop-entry-preserved
loop-entry-preserved c =
    let randoms = c.args.table.now in
    let s = c.args.setup.now in
    let entries : List Entry = c.under-entry-items.result.now in
    let i = c.loop-entry.entry-index in
    let found = c.loop-entry.found.items in
    elim c.match-move_of.branch [
      | in-Some+in_ok-push w ↦
          let key_is = is_under c.key_of-key.result c.args.book.now entries i _ c.under-entry-items.ensures c.loop-entry-test.true in
          Found-more randoms s entries i _ found _ _ c.loop-entry-test.true c.loop-entry.invariant
          (Found-here randoms s _ w.in-Some.m (record { key_is = key_is ∙ c.key_of-key.ensures.value; has_code = w.in-Some.ensures.0 }))
          (ap (λ v. v.items) w.found-is ∙ w.in_ok-push.ensures.items)
      | in_default w ↦
          Found-more randoms s entries i _ found [] _ c.loop-entry-test.true c.loop-entry.invariant
          (Found-not randoms s _ (λ m is. w.in_default.ensures m is.has_code)) (ap (λ v. v.items) w.found-is ∙ sym (append-nil found))
    ]

pub returns : goal.returns
returns c =
    let randoms = c.args.table.now in
    let s = c.args.setup.now in
    let entries : List Entry = c.under-entry-items.result.now in
    let all = take_all c.loop-entry.entry-index entries (omega arith) ∙ c.under-entry-items.ensures in
    Found-under randoms s c.key_of-key.result c.args.book.now c.loop-entry.found.items c.key_of-key.ensures.value
    (subst (λ (es : List Entry). Found es randoms s c.loop-entry.found.items) all c.loop-entry.invariant)
