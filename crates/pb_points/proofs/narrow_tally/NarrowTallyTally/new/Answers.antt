use Rattle.std.proofs.Common.{[], length, sym, ap, subst, arith}
use Rattle.pb_points.specs.NarrowTally.{AreSound}
use Rattle.pb_points.proofs.NarrowSums.{sound_none}
use Rattle.pb_points.proofs.narrow_tally.NarrowTallyTally.new.Goals as goal

pub invariant_of-result : goal.invariant_of-result
invariant_of-result c =
    let rows = c.no_blocks.ensures.rows in
    let wide = c.new.ensures.items in
    record {
      sound = subst (λ l. AreSound l c.new.result.items) (sym rows) (subst (AreSound []) (sym wide) sound_none);
      counted = omega (arith, c.no_blocks.ensures.none, ap length rows);
      room = omega (arith, c.no_blocks.ensures.room);
    }
