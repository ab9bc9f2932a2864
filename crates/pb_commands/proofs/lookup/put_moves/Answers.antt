use Rattle.std.proofs.Common.{◌∙◌, ◌++◌, ap, subst, sym}
use Rattle.pb_board.specs.LineEnd.{with_end}
use Rattle.pb_io.specs.Sink.{Put}
use Rattle.pb_io.proofs.PutLemmas.{Lasts-trans, front_more, put_cut, put_failed, put_last, put_more}
use Rattle.pb_commands.proofs.MovesLines.{further, further_end, further_from, line_from_first}
use Rattle.pb_commands.proofs.lookup.put_moves.Goals as goal

pub returns-in_err-put_found : goal.returns-in_err-put_found
returns-in_err-put_found g c =
    let is = line_from_first c.args.found.now c.in-Some.others.now _ c.in-Some.ensures.cases.0 in
    subst (Put _ _ c.from_residual.result) is (put_cut _ _ _ c.from_residual.result _ (with_end (further c.in-Some.others.now)) c.from_residual.ensures.0 c.in_err-put_found.ensures)

pub loop-m-init : goal.loop-m-init
loop-m-init g c =
    let is = line_from_first c.args.found.now c.in-Some.others.now _ c.in-Some.ensures.cases.0 in
    let put = c.in_ok-put_found.ensures in record {
      written = (_, put.all, is);
      failed = λ before. let bad = put.stays_failed before in cc;
      lasts = put.lasts;
      flushes = put.flushes;
    }

pub returns-in_err-put_found-2 : goal.returns-in_err-put_found-2
returns-in_err-put_found-2 g c =
    let so_far = c.loop-m.invariant.written in
    let is = ap (λ xs. so_far.0 ++ xs) (sym (further_from c.in-Some.others.now c.loop-m.m-index c.loop-m-item.result _ c.loop-m-item.is c.loop-m-test.true)) ∙ so_far.2 in
    let put = c.in_err-put_found-2.ensures in
    put_failed _ _ c.from_residual-in_err-put_found-2.result _ c.from_residual-in_err-put_found-2.ensures.0
    (front_more _ _ _ so_far.0 _ _ _ so_far.1 is put.front.0 put.front.1) put.failed (Lasts-trans _ _ _ c.loop-m.invariant.lasts put.lasts) put.flushed (put.flushes ∙ c.loop-m.invariant.flushes)

pub loop-m-preserved : goal.loop-m-preserved
loop-m-preserved g c =
    let so_far = c.loop-m.invariant.written in
    let is = ap (λ xs. so_far.0 ++ xs) (sym (further_from c.in-Some.others.now c.loop-m.m-index c.loop-m-item.result _ c.loop-m-item.is c.loop-m-test.true)) ∙ so_far.2 in
    let put = c.in_ok-put_found-2.ensures in record {
      written = put_more _ _ _ so_far.0 _ _ _ so_far.1 is put.all;
      failed = λ before. let bad = put.stays_failed (c.loop-m.invariant.failed before) in cc;
      lasts = Lasts-trans _ _ _ c.loop-m.invariant.lasts put.lasts;
      flushes = put.flushes ∙ c.loop-m.invariant.flushes;
    }

pub returns : goal.returns
returns g c =
    let so_far = c.loop-m.invariant.written in
    let is = ap (λ xs. so_far.0 ++ xs) (sym (further_end c.in-Some.others.now c.loop-m.m-index c.loop-m-test.false)) ∙ so_far.2 in
    put_last _ _ _ c.put-2.result so_far.0 _ _ so_far.1 is c.loop-m.invariant.failed c.loop-m.invariant.lasts c.loop-m.invariant.flushes c.put-2.ensures
