use Rattle.std.proofs.Common.{◌+◌, ◌++◌, ◌∙◌, if◌then◌else◌, length, set, ap, refl, arith, subst}
use Rattle.std.proofs.lemmas.Option.{slice_get_within}
use Rattle.pb_points.specs.Bag.{IsRowAt}
use Rattle.pb_points.specs.Blocks.{IsRowIn, rows_in}
use Rattle.pb_points.proofs.BagRows.{with_more}
use Rattle.pb_points.proofs.BlockRows.{added_there, is_fitting, index_among, index_full, index_last, same_there, set_full, set_last}
use Rattle.pb_points.proofs.blocks.add_ply.Goals as goal

pub returns-in-Some-clause-added : goal.returns-in-Some-clause-added
returns-in-Some-clause-added c = λ yes.
    let there = subst (λ l. IsRowAt l c.in-Some.index c.args.key c.args.code) c.deref.ensures.value c.in-Some.ensures in
    let row = c.index_mut.result.now in
    let full = rows_in c.args.blocks.now.full.items in
    let last = c.args.blocks.now.last.items in
    let index = index_last full last c.in-Some.index c.args.key c.args.code row there c.index_mut.ensures.value in
    let is = c.add.ensures.added ∙ ap (λ b. if b then with_more c.args.points 1 row else row) yes in
    added_there (full ++ last) (length full + c.in-Some.index) c.args.key c.args.code row index c.args.points (full ++ set last c.in-Some.index c.add.new.self)
    (ap (λ r. full ++ set last c.in-Some.index r) is ∙ set_last full last c.in-Some.index (with_more c.args.points 1 row))

pub index_mut-requires-in-Some-index_in : goal.index_mut-requires-in-Some-index_in
index_mut-requires-in-Some-index_in c =
    let there = subst (λ l. IsRowIn l c.in-Some-index_in.block c.in-Some-index_in.index c.args.key c.args.code) c.deref-2.ensures.value c.in-Some-index_in.ensures in
    omega (arith, slice_get_within c.args.blocks.now.full.items c.in-Some-index_in.block there.0 there.1, c.args.blocks.now.full.ok)

pub index_mut-requires-in-Some-index_in-2 : goal.index_mut-requires-in-Some-index_in-2
index_mut-requires-in-Some-index_in-2 c =
    let there = subst (λ l. IsRowIn l c.in-Some-index_in.block c.in-Some-index_in.index c.args.key c.args.code) c.deref-2.ensures.value c.in-Some-index_in.ensures in
    let was = c.index_mut-in-Some-index_in in
    omega (
      arith,
      is_fitting c.args.blocks.now.full.items c.in-Some-index_in.block c.in-Some-index_in.index c.args.key c.args.code was.result.now there was.ensures.value,
      was.result.now.ok,
    )

pub returns-in-Some-index_in-clause-added : goal.returns-in-Some-index_in-clause-added
returns-in-Some-index_in-clause-added c = λ yes.
    let there = subst (λ l. IsRowIn l c.in-Some-index_in.block c.in-Some-index_in.index c.args.key c.args.code) c.deref-2.ensures.value c.in-Some-index_in.ensures in
    let was = c.index_mut-in-Some-index_in in
    let row = c.index_mut-in-Some-index_in-2.result.now in
    let row_is = c.index_mut-in-Some-index_in-2.ensures.value in
    let full = c.args.blocks.now.full.items in
    let last = c.args.blocks.now.last.items in
    let i = c.in-Some-index_in.block in
    let at = index_among full i c.in-Some-index_in.index in
    let index = index_full full last i c.in-Some-index_in.index c.args.key c.args.code was.result.now row there was.ensures.value row_is in
    let changed = set_full full last i c.in-Some-index_in.index c.args.key c.args.code was.result.now row there was.ensures.value row_is _ _ refl in
    let is = c.add-in-Some-index_in.ensures.added ∙ ap (λ b. if b then with_more c.args.points 1 row else row) yes in
    added_there (rows_in full ++ last) at c.args.key c.args.code row index c.args.points _ (changed ∙ ap (λ r. set (rows_in full ++ last) at r) is)

pub returns-in-Some-index_in-clause-full : goal.returns-in-Some-index_in-clause-full
returns-in-Some-index_in-clause-full c = λ no.
    let there = subst (λ l. IsRowIn l c.in-Some-index_in.block c.in-Some-index_in.index c.args.key c.args.code) c.deref-2.ensures.value c.in-Some-index_in.ensures in
    let was = c.index_mut-in-Some-index_in in
    let row = c.index_mut-in-Some-index_in-2.result.now in
    let row_is = c.index_mut-in-Some-index_in-2.ensures.value in
    let full = c.args.blocks.now.full.items in
    let last = c.args.blocks.now.last.items in
    let i = c.in-Some-index_in.block in
    let at = index_among full i c.in-Some-index_in.index in
    let index = index_full full last i c.in-Some-index_in.index c.args.key c.args.code was.result.now row there was.ensures.value row_is in
    let changed = set_full full last i c.in-Some-index_in.index c.args.key c.args.code was.result.now row there was.ensures.value row_is _ _ refl in
    let is = c.add-in-Some-index_in.ensures.added ∙ ap (λ b. if b then with_more c.args.points 1 row else row) no in
    same_there (rows_in full ++ last) at c.args.key c.args.code row index _ (changed ∙ ap (λ r. set (rows_in full ++ last) at r) is)
