use Rattle.std.proofs.Common.{◌≡◌, ◌+◌, ◌∙◌, Global, List, Vec, ap, sym, subst, arith, rules}
use Rattle.std.proofs.lemmas.List.{length-set}
use Rattle.pb_points.specs.declared.row.Row.{Row}
use Rattle.pb_points.specs.Bag.{IsAddedUp}
use Rattle.pb_points.proofs.AddedRows.{in_place_ends, in_place_fits, in_place_goes_on, in_place_joins, in_place_starts, written_again}
use Rattle.pb_points.proofs.row.add_up.Goals as goal
use Rattle.pb_points.proofs.row.add_up.Goals.{then-row-sum+then-row-sum-2, else-row-sum, else-row-sum-via-then-row-sum+else-row-sum-2, else-row-sum-via-else-row-sum}

pub loop-index-init : goal.loop-index-init
loop-index-init c = record { before = omega arith; within = omega arith; long = search rules; sums = λ some. in_place_starts c.args.rows.now.items some }

pub overflow_add-sum : goal.overflow_add-sum
overflow_add-sum c =
    let fits = in_place_fits c.args.rows.now.items c.loop-index.rows.items c.loop-index.last c.loop-index.index (c.loop-index.invariant.sums (omega (arith, c.loop-index.invariant.long)))
    (omega arith) c.index-row.result.now c.index_mut-sum.result.now c.index-row.ensures c.index_mut-sum.ensures.value c.requires.fit c.if-row-sum.true c.if-row-sum-2.true in
    omega (arith, fits.0)

pub overflow_add-sum-then-row-sum-2 : goal.overflow_add-sum-then-row-sum-2
overflow_add-sum-then-row-sum-2 c =
    let fits = in_place_fits c.args.rows.now.items c.loop-index.rows.items c.loop-index.last c.loop-index.index (c.loop-index.invariant.sums (omega (arith, c.loop-index.invariant.long)))
    (omega arith) c.index-row.result.now c.index_mut-sum.result.now c.index-row.ensures c.index_mut-sum.ensures.value c.requires.fit c.if-row-sum.true c.if-row-sum-2.true in
    omega (arith, fits.1)

abbrev items : Vec Row Global → List Row
items rows = rows.items

pub loop-index-preserved : goal.loop-index-preserved
loop-index-preserved c =
    let rows = c.loop-index.rows.items in
    let last = c.loop-index.last in
    elim c.if-row-sum.branch [
      | then-row-sum+then-row-sum-2 w ↦ rw (w.rows-is, w.last-is) (record {
        before = omega (arith, c.loop-index.invariant.before);
        within = omega (arith, c.loop-index.invariant.within, length-set {A = Row});
        long = length-set rows last _ ∙ c.loop-index.invariant.long;
        sums = λ some. in_place_joins c.args.rows.now.items rows last c.loop-index.index (c.loop-index.invariant.sums some) (omega arith)
            c.index-row.result.now c.index_mut-sum.result.now c.index-row.ensures c.index_mut-sum.ensures.value w.if-row-sum.true w.if-row-sum-2.true;
      })
      | else-row-sum w ↦
          let again = written_again rows last c.index_mut-sum.result.now c.index_mut-sum.ensures.value in
          let same : w.else-row-sum.rows.items ≡ rows = elim w.else-row-sum.branch [
            | else-row-sum-via-then-row-sum+else-row-sum-2 v ↦ ap items v.rows-is ∙ again
            | else-row-sum-via-else-row-sum v ↦ ap items v.rows-is ∙ again
          ] in
          rw (w.rows-is, w.last-is, same) (record {
            before = omega (arith, c.loop-index.invariant.before);
            within = omega (arith, c.loop-index.invariant.before, length-set {A = Row});
            long = length-set rows (last + 1) _ ∙ c.loop-index.invariant.long;
            sums = λ some. in_place_goes_on c.args.rows.now.items rows last c.loop-index.index (c.loop-index.invariant.sums some) (omega arith)
                c.index-row.result.now c.index_mut-sum.result.now c.index-row.ensures c.index_mut-sum.ensures.value c.requires.ordered
                (λ key code. elim w.else-row-sum.branch [
                  | else-row-sum-via-then-row-sum+else-row-sum-2 v ↦ v.if-row-sum-2.false code
                  | else-row-sum-via-else-row-sum v ↦ v.if-row-sum.false key
                ]);
          })
    ]

pub returns : goal.returns
returns c =
    subst (IsAddedUp c.args.rows.now.items) (sym c.truncate.ensures.items)
    (in_place_ends c.args.rows.now.items c.loop-index.rows.items c.loop-index.last c.loop-index.index c.loop-index.invariant.long c.loop-index.invariant.sums (omega arith))
