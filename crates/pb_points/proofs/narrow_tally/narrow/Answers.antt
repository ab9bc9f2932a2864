use Rattle.std.proofs.Common.{[], sym, subst, arith}
use Rattle.pb_points.specs.Blocks.{rows_of}
use Rattle.pb_points.proofs.NarrowedRows.{Narrowing, narrowing_ends, narrowing_narrow, narrowing_starts, narrowing_wide}
use Rattle.pb_points.proofs.narrow_tally.narrow.Goals as goal
use Rattle.pb_points.proofs.narrow_tally.narrow.Goals.{in-Some+in_ok-push_row-in-Some, in-None+in_ok-push_row-in-None+in_ok-push-in-None}

pub loop-sum-init : goal.loop-sum-init
loop-sum-init c =
    let sums = c.args.sums.now in
    subst (λ l. Narrowing sums l c.new-wide.result.items 0) (sym c.no_blocks-rows.ensures.rows) (subst (λ l. Narrowing sums [] l 0) (sym c.new-wide.ensures.items) (narrowing_starts sums))

pub loop-sum-preserved : goal.loop-sum-preserved
loop-sum-preserved c =
    let sums = c.args.sums.now in
    let narrow = rows_of c.loop-sum.rows in
    let wide = c.loop-sum.wide.items in
    elim c.match-of.branch [
      | in-Some+in_ok-push_row-in-Some w ↦
          rw (w.rows-is, w.wide-is, w.in_ok-push_row-in-Some.ensures) (narrowing_narrow sums narrow wide c.loop-sum.sum-index w.in-Some.row c.loop-sum-test.true w.in-Some.ensures c.loop-sum.invariant)
      | in-None+in_ok-push_row-in-None+in_ok-push-in-None w ↦
          rw (w.rows-is, w.wide-is, w.in_ok-push_row-in-None.ensures, w.in_ok-push-in-None.ensures.items, w.empty.ensures) (narrowing_wide sums narrow wide c.loop-sum.sum-index c.requires c.loop-sum-test.true c.loop-sum.invariant)
    ]

pub returns : goal.returns
returns c = narrowing_ends c.args.sums.now (rows_of c.loop-sum.rows) c.loop-sum.wide.items c.loop-sum.sum-index c.loop-sum-test.false (omega (arith, c.loop-sum.auto.sum-index-end)) c.loop-sum.invariant
