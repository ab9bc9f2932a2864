use Rattle.std.proofs.Common.{subst, sym}
use Rattle.pb_board.specs.Position.{Position, IsSetup}
use Rattle.pb_moves.proofs.Kept.{after_is_setup}
use Rattle.pb_moves.proofs.playing.try_play.Goals as goal

pub returns-in-Some-clause-setup : goal.returns-in-Some-clause-setup
returns-in-Some-clause-setup c = λ _.
    let effect = c.in-Some.ensures.1 in
    let S : Position → Type 0 = λ t. IsSetup t in
    subst S (sym (c.apply.ensures c.args.m effect)) (after_is_setup c.args.setup.now c.args.m effect.rules effect.moves)
