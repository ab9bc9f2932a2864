use Rattle.std.proofs.Common.{◌≡◌, refl, sym, subst, arith}
use Rattle.std.specs.Prelude.{IfErr}
use Rattle.std.proofs.lemmas.Result.{err_from_is_err_and}
use Rattle.pb_games.specs.declared.refusal.Refusal.TheVariants as refusal
use Rattle.pb_moves.specs.Attacks.{IsPlayable}
use Rattle.pb_moves.specs.Played.{plies_from}
use Rattle.pb_games.specs.Reading.{AreRead, AreRefused}
use Rattle.pb_games.specs.Refusing.{Refuses}
use Rattle.pb_games.specs.Submissions.{setup_after}
use Rattle.pb_games.specs.Tokens.{moves_spelt}
use Rattle.pb_games.proofs.Headers.{result_refused, fen_refused}
use Rattle.pb_games.proofs.Judging.{start_refused, moves_refused, moves_lawful, moves_checked}
use Rattle.pb_games.proofs.judge.judge_fields.Goals as goal

pub returns-in_err-outcome-clause-refused : goal.returns-in_err-outcome-clause-refused
returns-in_err-outcome-clause-refused g c = λ line cut.
    let p = err_from_is_err_and c.from_residual.result c.from_residual.ensures.1 in
    let none = rw c.in_err-outcome.ensures.ok_part at c.read_outcome.ensures in
    let is : c.in_err-outcome.field-0.0 ≡ refusal.Result = cc (rw c.in_err-outcome.ensures.ok_part at c.in_err-outcome.ensures.value) in
    rw (p.1, p.2, is) (result_refused line cut.short _ _ _ _ cut.cut cut.id_is none)

pub returns-in-Err-clause-refused : goal.returns-in-Err-clause-refused
returns-in-Err-clause-refused g c = λ line cut.
    fen_refused line cut.short _ _ _ _ cut.cut cut.id_is c.in_ok-outcome.outcome (rw c.in_ok-outcome.ensures.ok_part at c.read_outcome.ensures) c.in-Err.error c.in-Err.ensures.refused

pub returns-then-not-playable-clause-refused : goal.returns-then-not-playable-clause-refused
returns-then-not-playable-clause-refused g c = λ line cut.
    start_refused line _ cut _ (rw c.in_ok-outcome.ensures.ok_part at c.read_outcome.ensures) _ c.in-Ok.ensures.found
    (λ playable. absurd (let never = c.if-not-playable.ensures.1 (subst IsPlayable (sym c.setup-setup.ensures.value) playable) in cc))

pub invariant_of-result : goal.invariant_of-result
invariant_of-result g c =
    moves_checked c.requires.0 _ c.requires.1 _ (rw c.in_ok-outcome.ensures.ok_part at c.read_outcome.ensures) _ c.in-Ok.ensures.found (subst IsPlayable c.setup-setup.ensures.value (c.if-not-playable.ensures.0 refl))
    c.in_ok-plies.plies (subst (λ t. AreRead t c.args.fields.moves.now c.in_ok-plies.plies) c.setup-setup.ensures.value c.in_ok-plies.ensures.read)

pub returns-clause-found : goal.returns-clause-found
returns-clause-found g c = λ line cut.
    moves_lawful line _ cut _ (rw c.in_ok-outcome.ensures.ok_part at c.read_outcome.ensures) _ c.in-Ok.ensures.found (subst IsPlayable c.setup-setup.ensures.value (c.if-not-playable.ensures.0 refl))
    c.in_ok-plies.plies (subst (λ t. AreRead t c.args.fields.moves.now c.in_ok-plies.plies) c.setup-setup.ensures.value c.in_ok-plies.ensures.read)

pub returns-clause-holds : goal.returns-clause-holds
returns-clause-holds g c =
    let moves = moves_spelt c.args.fields.moves.now in
    subst (λ t. g.P.MoveVisitor.holds c.read_moves.new.visitor c.in_ok-outcome.outcome (plies_from t moves) (setup_after t moves)) c.setup-setup.ensures.value c.in_ok-plies.ensures.holds

pub returns-in_err-plies-clause-refused : goal.returns-in_err-plies-clause-refused
returns-in_err-plies-clause-refused g c = λ line cut.
    let e = err_from_is_err_and c.from_residual-in_err-plies.result c.from_residual-in_err-plies.ensures.1 in
    let read = subst (λ x. AreRefused c.setup-setup.result c.args.fields.moves.now x) (sym e.2) c.in_err-plies.ensures.read in
    subst (λ r. IfErr r (λ x. Refuses line x)) (sym e.1)
    (moves_refused line _ cut _ (rw c.in_ok-outcome.ensures.ok_part at c.read_outcome.ensures) _ c.in-Ok.ensures.found (subst IsPlayable c.setup-setup.ensures.value (c.if-not-playable.ensures.0 refl)) e.0
    (subst (λ t. AreRefused t c.args.fields.moves.now e.0) c.setup-setup.ensures.value read))

pub read_moves-requires : goal.read_moves-requires
read_moves-requires g c = omega (arith, c.requires.1.short, c.requires.1.room)
