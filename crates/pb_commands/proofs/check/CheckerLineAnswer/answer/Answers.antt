use Rattle.std.proofs.Common.{refl, subst, true, false, List, ℕ, Ok, Err}
use Rattle.pb_accepted.specs.Accepting.{reply_line}
use Rattle.std.proofs.lemmas.Result.{err_from_is_err_and}
use Rattle.pb_games.specs.Submissions.{Submits}
use Rattle.pb_commands.proofs.Answering.{line_shows, put_as, stops_as}
use Rattle.pb_commands.specs.CheckShown as check
use Rattle.pb_commands.specs.CheckShown.{CheckShown}
use Rattle.pb_commands.proofs.Checking.{legal_put, long_refused, named_short, told_is, untold_is}
use Rattle.pb_commands.proofs.check.CheckerLineAnswer.answer.Goals as goal

pub refuse-requires-in-Err : goal.refuse-requires-in-Err
refuse-requires-in-Err g c = named_short _ _ c.in-Err.ensures.refused

pub returns-in_err-put_pieces-in-Ok-clause-puts : goal.returns-in_err-put_pieces-in-Ok-clause-puts
returns-in_err-put_pieces-in-Ok-clause-puts g c line told =
    let p = err_from_is_err_and c.from_residual.result c.from_residual.ensures.1 in
    let is = told_is _ c.in-Some.line line c.in-Some.is told in
    rw (p.1, p.2) (stops_as (CheckShown line) _ _ true _
    (legal_put line c.id_bytes.result.now c.in-Ok.game (subst (λ (l : List ℕ). Submits l c.in-Ok.game) is c.in-Ok.ensures.found) c.id_bytes.ensures) _ c.in_err-put_pieces-in-Ok.ensures)

pub returns-in_ok-put_pieces-in-Ok-clause-puts : goal.returns-in_ok-put_pieces-in-Ok-clause-puts
returns-in_ok-put_pieces-in-Ok-clause-puts g c line told =
    let is = told_is _ c.in-Some.line line c.in-Some.is told in
    put_as (CheckShown line) _ _ true _
    (legal_put line c.id_bytes.result.now c.in-Ok.game (subst (λ (l : List ℕ). Submits l c.in-Ok.game) is c.in-Ok.ensures.found) c.id_bytes.ensures) _ c.in_ok-put_pieces-in-Ok.ensures

pub returns-in-Err-clause-puts : goal.returns-in-Err-clause-puts
returns-in-Err-clause-puts g c line told =
    line_shows (CheckShown line) _ (subst (λ (l : List ℕ). CheckShown l (Ok (false, reply_line c.in-Some.line.now (Err c.in-Err.refusal)))) (told_is _ c.in-Some.line line c.in-Some.is told)
    (check.refused c.in-Err.refusal c.in-Err.ensures.refused refl)) _ _ c.refuse-in-Err.result c.refuse-in-Err.ensures

pub returns-in_default-clause-puts : goal.returns-in_default-clause-puts
returns-in_default-clause-puts g c line told = line_shows (CheckShown line) _ (long_refused line (untold_is _ line c.in_default.is told)) _ _ c.refuse.result c.refuse.ensures
