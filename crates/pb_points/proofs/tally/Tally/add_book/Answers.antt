use Rattle.std.proofs.Common.{subst}
use Rattle.pb_points.specs.TallyBook.{AddsBookOf, stretch_of}
use Rattle.pb_points.proofs.Stretches.{goes_on, starts}
use Rattle.pb_points.proofs.tally.Tally.add_book.Goals as goal

pub loop-next-init : goal.loop-next-init
loop-next-init g c = starts (g.Self.Tally.content c.args.self.now) c.args.least c.args.entries.now.items

pub loop-next-preserved : goal.loop-next-preserved
loop-next-preserved g c =
    let content = g.Self.Tally.content c.args.self.now in
    goes_on content c.args.least c.in-Some.first c.in_ok-next.next _ _ _ c.in_ok-next.ensures.onward
    (subst (λ n. AddsBookOf (stretch_of 0 n content) c.args.least c.args.entries.now.items c.loop-next.entries.items) c.in-Some.is c.loop-next.invariant)
    c.in_ok-next.ensures.ok
