use Rattle.std.proofs.Common.{◌++◌, ◌∷◌, ◌∙◌, rules}
use Rattle.pb_export.proofs.MoveLines.{moves_more}
use Rattle.pb_export.proofs.exporting.put_moves.Goals as goal

pub loop-m-preserved : goal.loop-m-preserved
loop-m-preserved c =
    moves_more c.args.moves.now c.loop-m.m-index c.loop-m-item.result c.args.line.now.items c.put_spaced.new.line.items c.put_spaced-in-loop-m.new.line.items c.loop-m-test.true c.loop-m-item.is
    (c.in_ok-put_spaced.ensures ∙ (λ j. c.loop-m.invariant j ++ 32 ∷ (c.as_bytes.ensures.value ∙ c.text.ensures) j)) (search rules)
