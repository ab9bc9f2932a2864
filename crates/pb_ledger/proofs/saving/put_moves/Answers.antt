use Rattle.std.proofs.Common.{◌∙◌, ◌++◌, ap, subst, sym}
use Rattle.pb_board.specs.LineEnd.{with_end}
use Rattle.pb_io.specs.Sink.{Put}
use Rattle.pb_io.proofs.PutLemmas.{Lasts-trans, front_more, put_cut, put_failed, put_last, put_more}
use Rattle.pb_ledger.proofs.SavedLoading.{further, further_end, further_from, line_from_first}
use Rattle.pb_ledger.proofs.saving.put_moves.Goals as goal

pub returns-in_err-put : goal.returns-in_err-put
returns-in_err-put g c =
    let is = line_from_first c.args.moves.now c.in-Some.further.now _ c.as_bytes.result.now c.in-Some.ensures.cases.0 (c.as_bytes.ensures.value ∙ c.text.ensures) in
    subst (Put _ _ c.from_residual.result) is (put_cut _ _ _ c.from_residual.result c.as_bytes.result.now (with_end (further c.in-Some.further.now)) c.from_residual.ensures.0 c.in_err-put.ensures)

pub loop-later-init : goal.loop-later-init
loop-later-init g c =
    let is = line_from_first c.args.moves.now c.in-Some.further.now _ c.as_bytes.result.now c.in-Some.ensures.cases.0 (c.as_bytes.ensures.value ∙ c.text.ensures) in
    let put = c.in_ok-put.ensures in record {
      written = (c.as_bytes.result.now, put.all, is);
      failed = λ before. let bad = put.stays_failed before in cc;
      lasts = put.lasts;
      flushes = put.flushes;
    }

pub returns-in_err-put_later : goal.returns-in_err-put_later
returns-in_err-put_later g c =
    let so_far = c.loop-later.invariant.written in
    let is = ap (λ xs. so_far.0 ++ xs) (sym (further_from c.in-Some.further.now c.loop-later.later-index c.later-item.result c.later-item.is c.loop-later-test.true)) ∙ so_far.2 in
    let put = c.in_err-put_later.ensures in
    put_failed _ _ c.from_residual-in_err-put_later.result _ c.from_residual-in_err-put_later.ensures.0
    (front_more _ _ _ so_far.0 _ _ _ so_far.1 is put.front.0 put.front.1) put.failed (Lasts-trans _ _ _ c.loop-later.invariant.lasts put.lasts) put.flushed (put.flushes ∙ c.loop-later.invariant.flushes)

pub loop-later-preserved : goal.loop-later-preserved
loop-later-preserved g c =
    let so_far = c.loop-later.invariant.written in
    let is = ap (λ xs. so_far.0 ++ xs) (sym (further_from c.in-Some.further.now c.loop-later.later-index c.later-item.result c.later-item.is c.loop-later-test.true)) ∙ so_far.2 in
    let put = c.in_ok-put_later.ensures in record {
      written = put_more _ _ _ so_far.0 _ _ _ so_far.1 is put.all;
      failed = λ before. let bad = put.stays_failed (c.loop-later.invariant.failed before) in cc;
      lasts = Lasts-trans _ _ _ c.loop-later.invariant.lasts put.lasts;
      flushes = put.flushes ∙ c.loop-later.invariant.flushes;
    }

pub returns : goal.returns
returns g c =
    let so_far = c.loop-later.invariant.written in
    let is = ap (λ xs. so_far.0 ++ xs) (sym (further_end c.in-Some.further.now c.loop-later.later-index c.loop-later-test.false)) ∙ so_far.2 in
    put_last _ _ _ c.put-3.result so_far.0 _ _ so_far.1 is c.loop-later.invariant.failed c.loop-later.invariant.lasts c.loop-later.invariant.flushes c.put-3.ensures
