use Rattle.std.proofs.Common.{◌-◌, length, refl, subst, arith}
use Rattle.std.proofs.lemmas.Option.{slice_get_read}
use Rattle.pb_points.specs.Bag.{IsRowAt}
use Rattle.pb_points.proofs.blocks.index_in.Goals as goal

pub returns-in-Some : goal.returns-in-Some
returns-in-Some c =
    let blocks = c.args.blocks.now in
    let i = c.loop-block.block - 1 in
    let block = c.index-blocks-block.result in (
      block,
      slice_get_read blocks (length blocks) i block refl (omega (arith, c.loop-block.auto.block, c.loop-block-test.true)) c.index-blocks-block.is,
      subst (λ l. IsRowAt l c.in-Some.index c.args.key c.args.code) c.deref.ensures.value c.in-Some.ensures,
    )
