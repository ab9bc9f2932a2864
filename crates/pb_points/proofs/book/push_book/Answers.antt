use Rattle.std.proofs.Common.{rules, ◌≡◌, nat_le, ap, ◌∙◌}
use Rattle.std.specs.Slice.Iter.{chunk_by_rest}
use Rattle.std.proofs.lemmas.Fn.{filter_same}
use Rattle.std.proofs.lemmas.List.Kept.{AllPairs-filter}
use Rattle.std.proofs.lemmas.List.Sorted.{answers_always}
use Rattle.pb_points.specs.Rows.{IsBelow, frequent, from}
use Rattle.pb_points.specs.TallyBook.{AddsSome}
use Rattle.pb_board.proofs.Elements.{filter_both}
use Rattle.pb_points.proofs.Groups.{IsCut, adds_both, adds_more, adds_nothing, cut_group, keys_equal, keys_rise, so_far_all, so_far_more, so_far_starts}
use Rattle.pb_points.proofs.book.push_book.Goals as goal

pub loop-group-init : goal.loop-group-init
loop-group-init c =
    let kept : c.retain.new.self.items ≡ frequent c.args.least (from c.args.first c.args.rows.items) =
    filter_same _ _ _ (λ x b f' k. search rules) _ _ c.retain.ensures.filtered ∙ filter_both (λ r. nat_le c.args.first r.key) (λ r. nat_le c.args.least r.times) c.args.rows.items in
    let same = ap (λ i. chunk_by_rest i) c.into_iter-group-iterator.ensures.into_iter_gives ∙ c.chunk_by-group-items.ensures.rest ∙ c.deref.ensures.value ∙ kept in
    so_far_starts _ _ c.args.entries.now.items same (AllPairs-filter IsBelow _ _ (AllPairs-filter IsBelow _ _ c.requires)) (adds_nothing c.args.entries.now.items)

pub push_group-requires : goal.push_group-requires
push_group-requires c =
    let rest = chunk_by_rest c.loop-group.group-iterator in
    let steps = c.in-Some.ensures.steps in
    let cut : IsCut rest c.in-Some.group.now (chunk_by_rest c.next.new.self) =
    record { split = steps.0; some = steps.1; prefix = (steps.2 keys_equal (answers_always _ (λ a r. r ≡ keys_equal a.0.now a.1.0.now) _ (λ f a r g q. search rules))).1 } in
    cut_group IsBelow keys_rise rest c.in-Some.group.now (chunk_by_rest c.next.new.self) cut c.loop-group.invariant.ordered

pub loop-group-preserved : goal.loop-group-preserved
loop-group-preserved c =
    let rest = chunk_by_rest c.loop-group.group-iterator in
    let steps = c.in-Some.ensures.steps in
    let cut : IsCut rest c.in-Some.group.now (chunk_by_rest c.next.new.self) =
    record { split = steps.0; some = steps.1; prefix = (steps.2 keys_equal (answers_always _ (λ a r. r ≡ keys_equal a.0.now a.1.0.now) _ (λ f a r g q. search rules))).1 } in
    so_far_more IsBelow keys_rise rest c.in-Some.group.now (chunk_by_rest c.next.new.self) cut c.loop-group.invariant.ordered adds_both _ _ _ _ c.loop-group.invariant c.in_ok-push_group.ensures.ok

pub returns-in_err-push_group-clause-err : goal.returns-in_err-push_group-clause-err
returns-in_err-push_group-clause-err c =
    let some : AddsSome c.args.entries.now.items c.push_group.new.entries.items = adds_more _ _ _ _ c.loop-group.invariant.adds c.in_err-push_group.ensures.err in
    search rules

pub returns-clause-ok : goal.returns-clause-ok
returns-clause-ok c = so_far_all _ _ _ _ c.in-None.ensures.steps.0 c.loop-group.invariant
