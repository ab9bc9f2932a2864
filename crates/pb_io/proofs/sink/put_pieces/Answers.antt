use Rattle.std.proofs.Common.{◌∙◌, ◌++◌, ap, sym}
use Rattle.pb_io.proofs.PutLemmas.{front_more, parts_end, parts_from, put_failed, put_last, put_more, Lasts-trans}
use Rattle.pb_io.proofs.sink.put_pieces.Goals as goal

pub returns-in_err-put : goal.returns-in_err-put
returns-in_err-put g c =
    let so_far = c.loop-part.invariant.written in
    let parts = c.args.parts.now in
    let i = c.loop-part.part-index in
    let is = ap (λ xs. so_far.0 ++ xs) (sym (parts_from parts c.args.end.now i _ c.loop-part-test.true)) ∙ so_far.2 in
    let put = c.in_err-put.ensures in
    put_failed _ _ c.from_residual.result _ c.from_residual.ensures.0
    (front_more _ _ _ so_far.0 _ _ _ so_far.1 is put.front.0 put.front.1) put.failed (Lasts-trans _ _ _ c.loop-part.invariant.lasts put.lasts) put.flushed (put.flushes ∙ c.loop-part.invariant.flushes)

pub loop-part-preserved : goal.loop-part-preserved
loop-part-preserved g c =
    let so_far = c.loop-part.invariant.written in
    let parts = c.args.parts.now in
    let i = c.loop-part.part-index in
    let is = ap (λ xs. so_far.0 ++ xs) (sym (parts_from parts c.args.end.now i _ c.loop-part-test.true)) ∙ so_far.2 in
    let put = c.in_ok-put.ensures in record {
      written = put_more _ _ _ so_far.0 _ _ _ so_far.1 is put.all;
      failed = λ before. let bad = put.stays_failed (c.loop-part.invariant.failed before) in cc;
      lasts = Lasts-trans _ _ _ c.loop-part.invariant.lasts put.lasts;
      flushes = put.flushes ∙ c.loop-part.invariant.flushes;
    }

pub returns : goal.returns
returns g c =
    let so_far = c.loop-part.invariant.written in
    let is = ap (λ xs. so_far.0 ++ xs) (sym (parts_end c.args.parts.now c.args.end.now c.loop-part.part-index c.loop-part-test.false)) ∙ so_far.2 in
    put_last _ _ _ c.put-2.result so_far.0 _ _ so_far.1 is c.loop-part.invariant.failed c.loop-part.invariant.lasts c.loop-part.invariant.flushes c.put-2.ensures
