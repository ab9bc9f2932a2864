use Rattle.std.proofs.Common.{◌≡◌, ℕ, ◌+◌, ◌<◌, ◌≤◌, ◌^◌, ◌++◌, ◌∙◌, List, length, get_or, take, ap, sym, arith}
use Rattle.std.proofs.lemmas.List.{take_all}
use Rattle.pb_points.specs.declared.row.Row.{Row}
use Rattle.pb_points.specs.Bag.{total}
use Rattle.pb_points.specs.Blocks.{rows_in}
use Rattle.pb_points.proofs.BlockRows.{Block, total_block, total_both, total_within}
use Rattle.pb_points.proofs.blocks.held_in_blocks.Goals as goal

-- a field of the rows of the last block, and of those of the full blocks, which are gone along
module _ (field : Row → ℕ) (full : List Block) (last : List Row) (k c : ℕ) where
  last_fits : (rows : List Row) → rows ≡ last → total field (rows_in full ++ last) k c ≤ 2 ^ 63 → total field rows k c ≤ 2 ^ 63
  last_fits rows is fit = omega (arith, total_both field full last k c, ap (λ l. total field l k c) is, fit)

  block_fits : (blocks : List Block) → blocks ≡ full → (i n : ℕ) (block : Block) (rows : List Row) → i < length blocks → block ≡ get_or blocks i block → rows ≡ block.items
      → n ≡ total field last k c + total field (rows_in (take i blocks)) k c → total field (rows_in full ++ last) k c ≤ 2 ^ 63 → n + total field rows k c ≤ 2 ^ 63
  block_fits blocks are i n block rows lt at is sum fit = omega (
    arith,
    sum,
    total_block field blocks i block k c lt at,
    total_within field blocks (i + 1) k c,
    ap (λ l. total field (rows_in l) k c) are,
    ap (λ l. total field l k c) is,
    total_both field full last k c,
    fit,
  )

  all_blocks : (blocks : List Block) → blocks ≡ full → (i n : ℕ) → length blocks ≤ i → n ≡ total field last k c + total field (rows_in (take i blocks)) k c → total field (rows_in full ++ last) k c ≡ n
  all_blocks blocks are i n end sum = omega (arith, sum, ap (λ l. total field (rows_in l) k c) (take_all i blocks end ∙ are), total_both field full last k c)

pub held_in-points-requires-clause-points_fit : goal.held_in-points-requires-clause-points_fit
held_in-points-requires-clause-points_fit c =
    let blocks = c.args.blocks.now in
    last_fits (λ r. r.points) blocks.full.items blocks.last.items c.args.key c.args.code _ c.deref.ensures.value c.requires.points_fit

pub held_in-points-requires-clause-times_fit : goal.held_in-points-requires-clause-times_fit
held_in-points-requires-clause-times_fit c =
    let blocks = c.args.blocks.now in
    last_fits (λ r. r.times) blocks.full.items blocks.last.items c.args.key c.args.code _ c.deref.ensures.value c.requires.times_fit

pub overflow_add-points : goal.overflow_add-points
overflow_add-points c =
    let blocks = c.args.blocks.now in
    let fits = block_fits (λ r. r.points) blocks.full.items blocks.last.items c.args.key c.args.code c.deref-block-items.result.now c.deref-block-items.ensures.value c.loop-block.block-index c.loop-block.points c.block-item.result _ c.loop-block-test.true c.block-item.is c.deref-in-loop-block.ensures.value c.loop-block.invariant.points c.requires.points_fit in
    omega (arith, fits, c.held_in-more_points.ensures.points)

pub overflow_add-times : goal.overflow_add-times
overflow_add-times c =
    let blocks = c.args.blocks.now in
    let fits = block_fits (λ r. r.times) blocks.full.items blocks.last.items c.args.key c.args.code c.deref-block-items.result.now c.deref-block-items.ensures.value c.loop-block.block-index c.loop-block.times c.block-item.result _ c.loop-block-test.true c.block-item.is c.deref-in-loop-block.ensures.value c.loop-block.invariant.times c.requires.times_fit in
    omega (arith, fits, c.held_in-more_points.ensures.times)

pub held_in-more_points-requires-clause-points_fit : goal.held_in-more_points-requires-clause-points_fit
held_in-more_points-requires-clause-points_fit c =
    let blocks = c.args.blocks.now in
    let fits = block_fits (λ r. r.points) blocks.full.items blocks.last.items c.args.key c.args.code c.deref-block-items.result.now c.deref-block-items.ensures.value c.loop-block.block-index c.loop-block.points c.block-item.result _ c.loop-block-test.true c.block-item.is c.deref-in-loop-block.ensures.value c.loop-block.invariant.points c.requires.points_fit in
    omega (arith, fits)

pub held_in-more_points-requires-clause-times_fit : goal.held_in-more_points-requires-clause-times_fit
held_in-more_points-requires-clause-times_fit c =
    let blocks = c.args.blocks.now in
    let fits = block_fits (λ r. r.times) blocks.full.items blocks.last.items c.args.key c.args.code c.deref-block-items.result.now c.deref-block-items.ensures.value c.loop-block.block-index c.loop-block.times c.block-item.result _ c.loop-block-test.true c.block-item.is c.deref-in-loop-block.ensures.value c.loop-block.invariant.times c.requires.times_fit in
    omega (arith, fits)

pub returns : goal.returns
returns c =
    let blocks = c.args.blocks.now in
    let full = c.deref-block-items.result.now in
    let points = all_blocks (λ r. r.points) blocks.full.items blocks.last.items c.args.key c.args.code full c.deref-block-items.ensures.value c.loop-block.block-index _ c.loop-block-test.false c.loop-block.invariant.points in
    let times = all_blocks (λ r. r.times) blocks.full.items blocks.last.items c.args.key c.args.code full c.deref-block-items.ensures.value c.loop-block.block-index _ c.loop-block-test.false c.loop-block.invariant.times in
    record { points = sym points; times = sym times }
