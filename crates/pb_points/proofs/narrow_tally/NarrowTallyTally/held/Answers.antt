use Rattle.std.proofs.Common.{◌≡◌, ℕ, ◌+◌, ◌++◌, ◌∙◌, List, ap, sym, arith}
use Rattle.std.specs.List.{IsDistinct}
use Rattle.std.proofs.lemmas.List.Sums.{sum_by-append}
use Rattle.pb_points.specs.declared.row.Row.{Row}
use Rattle.pb_points.specs.Bag.{gain, points_of, times_of, total}
use Rattle.pb_points.specs.Blocks.{rows_of}
use Rattle.pb_points.specs.ListTally.{list_content}
use Rattle.pb_points.specs.NarrowTally.{all_of}
use Rattle.pb_points.specs.Rows.{same_pair}
use Rattle.pb_points.specs.Tally.{Held, held}
use Rattle.pb_points.proofs.BagRows.{held_sums}
use Rattle.pb_points.proofs.DistinctRows.{distinct_sums}
use Rattle.pb_points.proofs.narrow_tally.NarrowTallyTally.held.Goals as goal

both : (field : Row → ℕ) (rows wide : List Row) (k c : ℕ) → total field (rows ++ wide) k c ≡ total field rows k c + total field wide k c
both field rows wide k c = sum_by-append (gain field k c) rows wide

pub held_in_blocks-points-requires-clause-points_fit : goal.held_in_blocks-points-requires-clause-points_fit
held_in_blocks-points-requires-clause-points_fit c =
    let was = c.args.self.now in
    omega (arith, both (λ r. r.points) (rows_of was.rows) was.wide.items c.args.key c.args.code, was.sound.fit.points c.args.key c.args.code)

pub held_in_blocks-points-requires-clause-times_fit : goal.held_in_blocks-points-requires-clause-times_fit
held_in_blocks-points-requires-clause-times_fit c =
    let was = c.args.self.now in
    omega (arith, both (λ r. r.times) (rows_of was.rows) was.wide.items c.args.key c.args.code, was.sound.fit.times c.args.key c.args.code)

-- what the searches found in the narrow rows and the wide ones
sums : (field : Row → ℕ) (rows wide : List Row) (k c n m : ℕ) → n ≡ total field rows k c → m ≡ total field wide k c → total field (rows ++ wide) k c ≡ n + m
sums field rows wide k c n m narrow more = omega (arith, narrow, more, both field rows wide k c)

wide_sums : (wide rows : List Row) (k c p t : ℕ) → IsDistinct same_pair wide → rows ≡ wide → held (list_content rows) k c ≡ record { points = p; times = t }
    → (p ≡ points_of wide k c) × (t ≡ times_of wide k c)
wide_sums wide rows k c p t distinct is found =
    let same : record { points = p; times = t } ≡ record { points = points_of wide k c; times = times_of wide k c } =
    sym found ∙ ap (λ l. held (list_content l) k c) is ∙ distinct_sums wide k c distinct in
    (ap (λ (h : Held). h.points) same, ap (λ (h : Held). h.times) same)

pub overflow_add-result : goal.overflow_add-result
overflow_add-result c =
    let was = c.args.self.now in
    let wide = wide_sums was.wide.items c.deref.result.now c.args.key c.args.code _ _ was.sound.spills.distinct c.deref.ensures.value c.find_held-more_points.ensures in
    let all = sums (λ r. r.points) (rows_of was.rows) was.wide.items c.args.key c.args.code _ _ c.held_in_blocks-points.ensures.points wide.0 in
    omega (arith, all, was.sound.fit.points c.args.key c.args.code)

pub overflow_add-result-2 : goal.overflow_add-result-2
overflow_add-result-2 c =
    let was = c.args.self.now in
    let wide = wide_sums was.wide.items c.deref.result.now c.args.key c.args.code _ _ was.sound.spills.distinct c.deref.ensures.value c.find_held-more_points.ensures in
    let all = sums (λ r. r.times) (rows_of was.rows) was.wide.items c.args.key c.args.code _ _ c.held_in_blocks-points.ensures.times wide.1 in
    omega (arith, all, was.sound.fit.times c.args.key c.args.code)

pub returns : goal.returns
returns c =
    let was = c.args.self.now in
    let wide = wide_sums was.wide.items c.deref.result.now c.args.key c.args.code _ _ was.sound.spills.distinct c.deref.ensures.value c.find_held-more_points.ensures in
    let points = sums (λ r. r.points) (rows_of was.rows) was.wide.items c.args.key c.args.code _ _ c.held_in_blocks-points.ensures.points wide.0 in
    let times = sums (λ r. r.times) (rows_of was.rows) was.wide.items c.args.key c.args.code _ _ c.held_in_blocks-points.ensures.times wide.1 in
    held_sums (all_of was.rows was.wide) c.args.key c.args.code ∙ (λ i. record { points = points i; times = times i })
