use Rattle.std.proofs.Common.{Err, sym, ap, subst, ◌∙◌}
use Rattle.std.specs.Prelude.{IfErr}
use Rattle.std.proofs.lemmas.Result.{err_from_is_err_and}
use Rattle.pb_games.specs.Refusing.{Refuses}
use Rattle.pb_games.proofs.Refused.{only_one, unlawful}
use Rattle.pb_games.proofs.judge.check_line.Goals as goal

pub returns-clause-found : goal.returns-clause-found
returns-clause-found c = c.judge_fields.ensures.found c.args.line.now c.in_ok-cut_line.ensures.cut

pub returns-clause-refused : goal.returns-clause-refused
returns-clause-refused c = c.judge_fields.ensures.refused c.args.line.now c.in_ok-cut_line.ensures.cut

pub returns-clause-only : goal.returns-clause-only
returns-clause-only c = only_one _ _ (returns-clause-found c) (returns-clause-refused c)

pub returns-in_err-cut_line-clause-refused : goal.returns-in_err-cut_line-clause-refused
returns-in_err-cut_line-clause-refused c =
    let e = err_from_is_err_and c.from_residual.result c.from_residual.ensures.1 in
    subst (λ r. IfErr r (λ x. Refuses c.args.line.now x)) (sym (e.1 ∙ ap (λ x. Err x) e.2)) c.in_err-cut_line.ensures.refused

pub returns-in_err-cut_line-clause-only : goal.returns-in_err-cut_line-clause-only
returns-in_err-cut_line-clause-only c = λ s lawful. absurd (unlawful _ _ s c.in_err-cut_line.ensures.refused lawful)
