use Rattle.std.proofs.Common.{ap, ◌∙◌, subst, sym, arith, length}
use Rattle.std.proofs.Math.ListN.{length-append}
use Rattle.pb_points.specs.PartTally.{HoldNothing}
use Rattle.pb_points.proofs.PartRows.{nothing_pushed}
use Rattle.pb_points.proofs.part_tally.empty_parts.Goals as goal

pub loop-init : goal.loop-init
loop-init g c = record {
  count = ap length c.in_ok-parts.ensures.items;
  room = c.in_ok-parts.ensures.exact;
  nothing = subst (HoldNothing g.T.Tally.content) (sym c.in_ok-parts.ensures.items) (λ i k d part e. cc);
}

pub loop-preserved : goal.loop-preserved
loop-preserved g c = record {
  count = grind (arith, length-append);
  room = c.push_reserved.ensures.capacity ∙ c.loop.invariant.room;
  nothing = subst (HoldNothing g.T.Tally.content) (sym c.push_reserved.ensures.items) (nothing_pushed g.T.Tally.content c.loop.parts.items c.new.result c.loop.invariant.nothing c.new.ensures);
}
