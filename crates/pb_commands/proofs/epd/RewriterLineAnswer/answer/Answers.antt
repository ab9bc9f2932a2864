use Rattle.std.proofs.Common.{ap, refl, true, ◌∙◌, append-nil}
use Rattle.std.proofs.lemmas.Bool.{false≢true}
use Rattle.std.proofs.lemmas.Result.{err_from_is_err_and}
use Rattle.std.specs.Prelude.{Err, Ok}
use Rattle.pb_board.specs.LineEnd.{with_end}
use Rattle.pb_epd.specs.declared.refusal.EpdError.TheVariants as epd
use Rattle.pb_epd.proofs.Texts.{text_memory}
use Rattle.pb_commands.specs.EpdShown.{LineShown, epd_verdict}
use Rattle.pb_commands.proofs.Answering.{line_shows, put_as, stops_as}
use Rattle.pb_commands.proofs.Lookups.{EpdGives, line_full}
use Rattle.pb_commands.proofs.epd.RewriterLineAnswer.answer.Goals as goal

pub returns-in_err-form-in-Ok-clause-puts : goal.returns-in_err-form-in-Ok-clause-puts
returns-in_err-form-in-Ok-clause-puts g c line told =
    let p = err_from_is_err_and c.from_residual.result c.from_residual.ensures.1 in
    rw (p.1, p.2) (
      line_full EpdGives c.args.number _ c.in-Some.line _ line c.in-Some.is told c.without_return-text.ensures (λ blank. false≢true (c.if-is_blank.ensures.1 blank)) _
          (Err epd.Memory, text_memory _ _ c.in-Ok.ensures.found.0 c.in-Ok.ensures.found.1, refl),
      refl,
    )

pub returns-in_err-put_pieces-in-Ok-clause-puts : goal.returns-in_err-put_pieces-in-Ok-clause-puts
returns-in_err-put_pieces-in-Ok-clause-puts g c line told =
    let p = err_from_is_err_and c.from_residual-in_err-put_pieces-in-Ok.result c.from_residual-in_err-put_pieces-in-Ok.ensures.1 in
    rw (p.1, p.2) (stops_as (LineShown c.args.number line) _ _ true _
    (line_full EpdGives c.args.number _ c.in-Some.line _ line c.in-Some.is told c.without_return-text.ensures (λ blank. false≢true (c.if-is_blank.ensures.1 blank)) _
    (Ok c.in-Ok.epd, c.in-Ok.ensures.found, ap (λ w. Ok (true, with_end w)) (append-nil c.as_slice.result.now ∙ c.as_slice.ensures.value ∙ c.in_ok-form-in-Ok.ensures)))
    _ c.in_err-put_pieces-in-Ok.ensures)

pub returns-in_ok-put_pieces-in-Ok-clause-puts : goal.returns-in_ok-put_pieces-in-Ok-clause-puts
returns-in_ok-put_pieces-in-Ok-clause-puts g c line told =
    put_as (LineShown c.args.number line) _ _ true _
    (line_full EpdGives c.args.number _ c.in-Some.line _ line c.in-Some.is told c.without_return-text.ensures (λ blank. false≢true (c.if-is_blank.ensures.1 blank)) _
    (Ok c.in-Ok.epd, c.in-Ok.ensures.found, ap (λ w. Ok (true, with_end w)) (append-nil c.as_slice.result.now ∙ c.as_slice.ensures.value ∙ c.in_ok-form-in-Ok.ensures)))
    _ c.in_ok-put_pieces-in-Ok.ensures

pub returns-in-Err-clause-puts : goal.returns-in-Err-clause-puts
returns-in-Err-clause-puts g c line told =
    line_shows (LineShown c.args.number line) (epd_verdict c.args.number c.in-Err.error)
    (line_full EpdGives c.args.number _ c.in-Some.line _ line c.in-Some.is told c.without_return-text.ensures (λ blank. false≢true (c.if-is_blank.ensures.1 blank)) _ (Err c.in-Err.error, c.in-Err.ensures.refused, refl))
    _ _ c.put_refusal.result c.put_refusal.ensures
