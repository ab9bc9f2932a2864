use Rattle.std.proofs.Common.{refl, true}
use Rattle.std.proofs.lemmas.Bool.{false≢true}
use Rattle.std.proofs.lemmas.Result.{err_from_is_err_and}
use Rattle.pb_commands.specs.EpdShown.{epd_verdict}
use Rattle.pb_commands.specs.LookupShown.{LineFound}
use Rattle.pb_commands.proofs.Answering.{line_shows, put_as, stops_as}
use Rattle.pb_commands.proofs.Lookups.{Gives, line_full, text_found, text_refused, text_wants}
use Rattle.pb_commands.proofs.lookup.FinderLineAnswer.answer.Goals as goal

pub returns-in_err-found-in-Ok-clause-puts : goal.returns-in_err-found-in-Ok-clause-puts
returns-in_err-found-in-Ok-clause-puts g c line told =
    let p = err_from_is_err_and c.from_residual.result c.from_residual.ensures.1 in
    rw (p.1, p.2) (
      (line_full (Gives c.args.self.now.table c.args.self.now.book) c.args.number _ c.in-Some.line _ line c.in-Some.is told c.without_return-text.ensures (λ blank. false≢true (c.if-is_blank.ensures.1 blank)) _
          (text_wants c.args.self.now.table c.args.self.now.book c.args.number _ c.in-Ok.setup c.in-Ok.ensures)),
      refl,
    )

pub returns-in_err-put_moves-in-Ok-clause-puts : goal.returns-in_err-put_moves-in-Ok-clause-puts
returns-in_err-put_moves-in-Ok-clause-puts g c line told =
    let p = err_from_is_err_and c.from_residual-in_err-put_moves-in-Ok.result c.from_residual-in_err-put_moves-in-Ok.ensures.1 in
    rw (p.1, p.2) (stops_as (LineFound c.args.self.now.table c.args.self.now.book c.args.number line) _ _ true _
    (line_full (Gives c.args.self.now.table c.args.self.now.book) c.args.number _ c.in-Some.line _ line c.in-Some.is told c.without_return-text.ensures (λ blank. false≢true (c.if-is_blank.ensures.1 blank)) _
    (text_found c.args.self.now.table c.args.self.now.book c.args.number _ c.in-Ok.setup c.in-Ok.ensures _ c.as_slice.result.now c.in_ok-found-in-Ok.ensures c.as_slice.ensures.value))
    _ c.in_err-put_moves-in-Ok.ensures)

pub returns-in_ok-put_moves-in-Ok-clause-puts : goal.returns-in_ok-put_moves-in-Ok-clause-puts
returns-in_ok-put_moves-in-Ok-clause-puts g c line told =
    put_as (LineFound c.args.self.now.table c.args.self.now.book c.args.number line) _ _ true _
    (line_full (Gives c.args.self.now.table c.args.self.now.book) c.args.number _ c.in-Some.line _ line c.in-Some.is told c.without_return-text.ensures (λ blank. false≢true (c.if-is_blank.ensures.1 blank)) _
    (text_found c.args.self.now.table c.args.self.now.book c.args.number _ c.in-Ok.setup c.in-Ok.ensures _ c.as_slice.result.now c.in_ok-found-in-Ok.ensures c.as_slice.ensures.value))
    _ c.in_ok-put_moves-in-Ok.ensures

pub returns-in-Err-clause-puts : goal.returns-in-Err-clause-puts
returns-in-Err-clause-puts g c line told =
    line_shows (LineFound c.args.self.now.table c.args.self.now.book c.args.number line) (epd_verdict c.args.number c.in-Err.error)
    (line_full (Gives c.args.self.now.table c.args.self.now.book) c.args.number _ c.in-Some.line _ line c.in-Some.is told c.without_return-text.ensures (λ blank. false≢true (c.if-is_blank.ensures.1 blank)) _
    (text_refused c.args.self.now.table c.args.self.now.book c.args.number _ c.in-Err.error c.in-Err.ensures))
    _ _ c.put_refusal.result c.put_refusal.ensures
