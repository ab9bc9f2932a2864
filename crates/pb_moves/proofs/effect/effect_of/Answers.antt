use Rattle.std.proofs.Common.{ℕ, ap, subst, ◌∙◌}
use Rattle.pb_board.specs.declared.setup.Rights.{Rights}
use Rattle.pb_moves.specs.Candidate.{IsOwn}
use Rattle.pb_moves.specs.Successor.{rights_after}
use Rattle.pb_moves.proofs.Effects.{is_effect}
use Rattle.pb_moves.proofs.effect.effect_of.Goals as goal

pub returns-in_err-first : goal.returns-in_err-first
returns-in_err-first c = rw c.from_residual-in_err-first.ensures c.in_err-first.ensures

pub returns : goal.returns
returns c =
    let s = c.args.setup.now in
    let m = c.args.m in
    let piece = c.in_ok-piece.piece in
    let H : ℕ → Type 0 = λ q. IsOwn s q piece in
    is_effect s m piece c.in_ok-first.first c.in_ok-first.second c.rights_after.result c.en_passant_after.result c.own_piece.ensures.rules (subst H c.from.ensures.value c.in_ok-piece.ensures.found)
    c.in_ok-first.ensures (c.rights_after.ensures ∙ ap (λ (r : Rights). rights_after r m) c.rights.ensures) c.en_passant_after.ensures
