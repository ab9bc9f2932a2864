use Rattle.std.proofs.Common.{◌≡◌, ◌++◌, ◌∙◌, IsPermutation, List, [], ap, sym, subst, arith}
use Rattle.std.proofs.lemmas.Grind.{common_steps}
use Rattle.std.proofs.lemmas.List.{append-nil, nil_from_length}
use Rattle.std.proofs.lemmas.List.Sorted.{IsPermutation-append_left, IsPermutation-trans}
use Rattle.pb_points.specs.declared.row.Row.{Row}
use Rattle.pb_points.specs.Bag.{HoldsSame}
use Rattle.pb_points.specs.Blocks.{rows_of}
use Rattle.pb_points.specs.NarrowTally.{all_of}
use Rattle.pb_points.proofs.BagRows.{fit_same, same_permuted}
use Rattle.pb_points.proofs.narrow_tally.NarrowTally.sums.Goals as goal
use Rattle.pb_points.proofs.narrow_tally.NarrowTally.sums.Goals.{then-not-is_empty+in_ok-extend_from_slice+in_ok-sort_rows, else-not-is_empty}

-- narrow rows in order, with wide ones behind them that are then sorted among them
beside : (rows ordered wide listed sorted : List Row) → IsPermutation rows ordered → listed ≡ ordered ++ wide → IsPermutation listed sorted → IsPermutation (rows ++ wide) sorted
beside rows ordered wide listed sorted p is q =
    IsPermutation-trans (rows ++ wide) (ordered ++ wide) sorted (IsPermutation-append_left wide rows ordered p) (subst (λ l. IsPermutation l sorted) is q)

-- without wide ones
alone : (rows ordered wide : List Row) → IsPermutation rows ordered → wide ≡ [] → IsPermutation (rows ++ wide) ordered
alone rows ordered wide p none = subst (λ l. IsPermutation l ordered) (sym (ap (λ l. rows ++ l) none ∙ append-nil rows)) p

pub add_up-requires-clause-ordered : goal.add_up-requires-clause-ordered
add_up-requires-clause-ordered c =
    let narrow : c.add_rows.new.rows.items ≡ c.order_rows.new.rows.items = c.in_ok-add_rows.ensures ∙ ap (λ l. l ++ c.deref.result.now) c.in_ok-rows.ensures.items ∙ c.deref.ensures.value in
    elim c.if-not-is_empty.branch [
      | then-not-is_empty+in_ok-extend_from_slice+in_ok-sort_rows w ↦ rw w.rows-is w.in_ok-sort_rows.ensures.sorted
      | else-not-is_empty w ↦ rw (w.rows-is, narrow) c.in_ok-order_rows.ensures.sorted
    ]

pub add_up-requires-clause-fit : goal.add_up-requires-clause-fit
add_up-requires-clause-fit c =
    let was = c.args.self.now in
    let all = all_of was.rows was.wide in
    let rows = c.if-not-is_empty.rows.items in
    let narrow : c.add_rows.new.rows.items ≡ c.order_rows.new.rows.items = c.in_ok-add_rows.ensures ∙ ap (λ l. l ++ c.deref.result.now) c.in_ok-rows.ensures.items ∙ c.deref.ensures.value in
    let ordered : IsPermutation (rows_of was.rows) c.order_rows.new.rows.items = subst (λ l. IsPermutation l c.order_rows.new.rows.items) c.in_ok-narrow.ensures c.order_rows.ensures.permutation in
    let permuted : IsPermutation all rows = elim c.if-not-is_empty.branch [
      | then-not-is_empty+in_ok-extend_from_slice+in_ok-sort_rows w ↦ rw w.rows-is
          (beside (rows_of was.rows) c.order_rows.new.rows.items was.wide.items w.extend_from_slice.new.self.items w.sort_rows.new.rows.items ordered
          (w.in_ok-extend_from_slice.ensures.items ∙ ap (λ l. l ++ w.deref-then-not-is_empty.result.now) narrow ∙ ap (λ l. c.order_rows.new.rows.items ++ l) w.deref-then-not-is_empty.ensures.value)
          w.sort_rows.ensures.permutation)
      | else-not-is_empty w ↦ rw (w.rows-is, narrow)
          (alone (rows_of was.rows) c.order_rows.new.rows.items was.wide.items ordered (nil_from_length was.wide.items (grind (arith, common_steps, w.if-not-is_empty.false))))
    ] in
    fit_same all rows (same_permuted all rows permuted) was.sound.fit

pub returns : goal.returns
returns c =
    let was = c.args.self.now in
    let all = all_of was.rows was.wide in
    let rows = c.if-not-is_empty.rows.items in
    let narrow : c.add_rows.new.rows.items ≡ c.order_rows.new.rows.items = c.in_ok-add_rows.ensures ∙ ap (λ l. l ++ c.deref.result.now) c.in_ok-rows.ensures.items ∙ c.deref.ensures.value in
    let ordered : IsPermutation (rows_of was.rows) c.order_rows.new.rows.items = subst (λ l. IsPermutation l c.order_rows.new.rows.items) c.in_ok-narrow.ensures c.order_rows.ensures.permutation in
    let permuted : IsPermutation all rows = elim c.if-not-is_empty.branch [
      | then-not-is_empty+in_ok-extend_from_slice+in_ok-sort_rows w ↦ rw w.rows-is
          (beside (rows_of was.rows) c.order_rows.new.rows.items was.wide.items w.extend_from_slice.new.self.items w.sort_rows.new.rows.items ordered
          (w.in_ok-extend_from_slice.ensures.items ∙ ap (λ l. l ++ w.deref-then-not-is_empty.result.now) narrow ∙ ap (λ l. c.order_rows.new.rows.items ++ l) w.deref-then-not-is_empty.ensures.value)
          w.sort_rows.ensures.permutation)
      | else-not-is_empty w ↦ rw (w.rows-is, narrow)
          (alone (rows_of was.rows) c.order_rows.new.rows.items was.wide.items ordered (nil_from_length was.wide.items (grind (arith, common_steps, w.if-not-is_empty.false))))
    ] in
    let same : HoldsSame all rows = same_permuted all rows permuted in
    record { rise = c.add_up.ensures.rise; same = λ k code. c.add_up.ensures.same k code ∙ same k code }
