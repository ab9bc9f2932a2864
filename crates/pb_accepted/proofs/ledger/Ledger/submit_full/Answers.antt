use Rattle.std.proofs.Common.{◌+◌, Err, Some, ap, refl, sym, subst, ◌∙◌, rules}
use Rattle.std.specs.List.{All}
use Rattle.std.proofs.lemmas.Result.{err_from_is_err_and}
use Rattle.pb_games.specs.Repeat.{AreFieldsOf}
use Rattle.pb_games.specs.Submissions.{IsSubmission}
use Rattle.pb_accepted.specs.Accepting as steps
use Rattle.pb_accepted.specs.Accepting.{answer_of}
use Rattle.pb_accepted.specs.Ledger.{LedgerState}
use Rattle.pb_accepted.specs.Replying.{IsNewId, IsNumber}
use Rattle.pb_accepted.proofs.Arrivals.{another, comes_again, is_new, submission_at}
use Rattle.pb_accepted.proofs.Places.{IsNewId-absent, key_found}
use Rattle.pb_accepted.proofs.Steps.{new_grows}
use Rattle.pb_accepted.proofs.ledger.Ledger.submit_full.Goals as goal

pub returns-in_err-fields-clause-step : goal.returns-in_err-fields-clause-step
returns-in_err-fields-clause-step g c =
    let e = err_from_is_err_and c.from_residual.result c.from_residual.ensures.1 in
    rw c.in-Some.is (steps.refused _ c.in_err-fields.ensures.refused (ap answer_of (e.1 ∙ ap (λ x. Err x) e.2)) refl)

pub repeats-requires : goal.repeats-requires
repeats-requires g c =
    let found = c.in-Some-get_full in
    (submission_at c.self.inside.games.entries found.index _ c.self.invariant.rules.games found.ensures.entry).game.moves

pub returns-in_err-judge_fields-clause-step : goal.returns-in_err-judge_fields-clause-step
returns-in_err-judge_fields-clause-step g c =
    let e = err_from_is_err_and c.from_residual-in_err-judge_fields.result c.from_residual-in_err-judge_fields.ensures.1 in
    rw c.in-Some.is (steps.refused _ (c.in_err-judge_fields.ensures.refused c.in-Some.line.now c.in_ok-fields.ensures.cut) (ap answer_of (e.1 ∙ ap (λ x. Err x) e.2)) refl)

pub returns-then-not-repeats-clause-step : goal.returns-then-not-repeats-clause-step
returns-then-not-repeats-clause-step g c =
    let entries = c.self.inside.games.entries in
    let found = c.in-Some-get_full in
    let holds = ap (λ (l : LedgerState). l.accepted) c.self.view_is in
    let id = key_found entries c.id-id.result _ found.ensures.key ∙ c.id-id.ensures in
    let stands = subst (λ X. IsNumber X (found.index + 1) (c.in_ok-fields.fields.id.now, found.game.now)) holds (found.index, refl, found.ensures.entry ∙ ap (λ x. Some (x, found.game.now)) id) in
    let differs : ¬ AreFieldsOf found.game.now c.in_ok-fields.fields = search rules in
    let checked = c.in_ok-judge_fields in
    let lawful = checked.ensures.found c.in-Some.line.now c.in_ok-fields.ensures.cut in
    let other = another _ _ _ c.in_ok-fields.ensures.cut (found.index + 1) (found.game.now, stands, differs) checked.field-0 lawful in
    rw c.in-Some.is (steps.conflict checked.field-0 other.0 (found.index + 1) lawful other.1 other.2 refl refl)

pub returns-in-Some-get_full-clause-step : goal.returns-in-Some-get_full-clause-step
returns-in-Some-get_full-clause-step g c =
    let entries = c.self.inside.games.entries in
    let found = c.in-Some-get_full in
    let holds = ap (λ (l : LedgerState). l.accepted) c.self.view_is in
    let id = key_found entries c.id-id.result _ found.ensures.key ∙ c.id-id.ensures in
    let stands = subst (λ X. IsNumber X (found.index + 1) (c.in_ok-fields.fields.id.now, found.game.now)) holds (found.index, refl, found.ensures.entry ∙ ap (λ x. Some (x, found.game.now)) id) in
    let same : AreFieldsOf found.game.now c.in_ok-fields.fields = search rules in
    let arrives = comes_again _ _ _ c.in_ok-fields.ensures.cut (subst (All IsSubmission) holds c.self.invariant.rules.games) (found.index + 1) (found.game.now, stands, same) in
    rw c.in-Some.is (steps.repeat arrives.0 (found.index + 1) arrives.1 arrives.2 refl refl)

pub take-requires-clause-new : goal.take-requires-clause-new
take-requires-clause-new g c =
    let entries = c.self.inside.games.entries in
    let holds = ap (λ (l : LedgerState). l.accepted) c.self.view_is in
    subst (IsNewId c.in_ok-fields.fields.id.now) holds (subst (λ x. IsNewId x entries) c.id-id.ensures (IsNewId-absent entries c.id-id.result (sym c.in_default-get_full.ensures.value)))

pub returns-in_err-take-clause-step : goal.returns-in_err-take-clause-step
returns-in_err-take-clause-step g c =
    let e = err_from_is_err_and c.from_residual-in_err-take.result c.from_residual-in_err-take.ensures.1 in
    rw (c.in-Some.is, e.1, e.2) (c.in_err-take.ensures.step c.in-Some.line.now c.in_ok-fields.ensures.cut)

pub returns-clause-step : goal.returns-clause-step
returns-clause-step g c = rw c.in-Some.is (c.in_ok-take.ensures.step c.in-Some.line.now c.in_ok-fields.ensures.cut)

pub returns-clause-new : goal.returns-clause-new
returns-clause-new g c =
    let entries = c.self.inside.games.entries in
    let holds = ap (λ (l : LedgerState). l.accepted) c.self.view_is in
    let fresh = subst (IsNewId c.in_ok-fields.fields.id.now) holds (subst (λ x. IsNewId x entries) c.id-id.ensures (IsNewId-absent entries c.id-id.result (sym c.in_default-get_full.ensures.value))) in
    new_grows _ _ _ _ _ (is_new _ _ _ c.in_ok-fields.ensures.cut fresh) (c.in_ok-take.ensures.step c.in-Some.line.now c.in_ok-fields.ensures.cut)
