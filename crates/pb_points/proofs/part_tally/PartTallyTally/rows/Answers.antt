use Rattle.std.proofs.Common.{◌≡◌, ◌≤◌, ◌++◌, ◌+◌, Some, refl, length, ap, ◌∙◌, subst, sym, arith}
use Rattle.std.specs.Prelude.{slice_get}
use Rattle.std.proofs.lemmas.Option.{slice_get_read}
use Rattle.pb_points.proofs.PartRows.{Listing, listing_starts, listing_goes_on, listing_ends}
use Rattle.pb_points.proofs.part_tally.PartTallyTally.rows.Goals as goal

pub loop-part-init : goal.loop-part-init
loop-part-init g c =
    subst (λ rows. Listing g.T.Tally.content c.args.self.now.parts.items rows 0) (sym c.new-rows.ensures.items) (listing_starts g.T.Tally.content c.args.self.now.parts.items)

pub loop-part-preserved : goal.loop-part-preserved
loop-part-preserved g c =
    let parts = c.args.self.now.parts.items in
    let here : slice_get c.deref-part-items.result.now c.loop-part.part-index ≡ Some c.part-item.result =
    slice_get_read c.deref-part-items.result.now (length c.deref-part-items.result.now) c.loop-part.part-index c.part-item.result refl c.loop-part-test.true c.part-item.is in
    let there : slice_get parts c.loop-part.part-index ≡ Some c.part-item.result = ap (λ l. slice_get l c.loop-part.part-index) (sym c.deref-part-items.ensures.value) ∙ here in
    subst (λ rows. Listing g.T.Tally.content parts rows (c.loop-part.part-index + 1)) (sym (c.in_ok-extend_from_slice.ensures.items ∙ ap (λ l. c.loop-part.rows.items ++ l) c.deref.ensures.value))
    (listing_goes_on g.T.Tally.content parts c.loop-part.rows.items c.in_ok-more.more.items c.loop-part.part-index c.part-item.result c.args.self.now.own there c.loop-part.invariant c.in_ok-more.ensures.order c.in_ok-more.ensures.each)

pub returns-clause-order : goal.returns-clause-order
returns-clause-order g c = c.loop-part.invariant.rise

pub returns-clause-each : goal.returns-clause-each
returns-clause-each g c =
    let parts = c.args.self.now.parts.items in
    let end : length parts ≤ c.loop-part.part-index = omega (arith, ap length c.deref-part-items.ensures.value, c.loop-part-test.false) in
    listing_ends g.T.Tally.content parts c.loop-part.rows.items c.loop-part.part-index c.loop-part.invariant end
