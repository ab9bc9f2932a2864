use Rattle.std.proofs.lemmas.Bool.{and_parts}
use Rattle.pb_moves.proofs.Targets.{both}
use Rattle.pb_moves.proofs.Usual.{alone_at, usual_found, usual_unnamed}
use Rattle.pb_moves.proofs.cases.usual_move.Goals as goal

pub returns-then-not-goes : goal.returns-then-not-goes
returns-then-not-goes c = λ moves.
    let told = alone_at c.args.setup.now c.args.m c.args.piece c.from-from.result c.to-to.result c.from-from.ensures.value c.to-to.ensures.value in
    let at = told.1 moves.1 in
    let goes = both _ _ (c.is_target.ensures.value.1 at.0) (c.reaches.ensures.1 at.1) in
    let stays = c.if-not-goes.true in
    cc

pub returns-in_err-kind : goal.returns-in_err-kind
returns-in_err-kind c = rw c.from_residual.ensures (usual_unnamed c.args.setup.now c.args.m c.args.piece c.requires.own c.in_err-kind.ensures)

pub returns : goal.returns
returns c =
    let s = c.args.setup.now in
    let m = c.args.m in
    let w = and_parts _ _ c.if-not-goes.false in
    let told = alone_at s m c.args.piece c.from-from.result c.to-to.result c.from-from.ensures.value c.to-to.ensures.value in
    let promotes = c.in_ok-kind.ensures in
    usual_found s m c.args.piece c.in_ok-kind.kind c.from-from.result c.to-to.result c.requires.own c.from-from.ensures.value c.to-to.ensures.value c.from-from.ensures.rules
    promotes.0 promotes.1 (told.0 (c.is_target.ensures.value.0 w.0, c.reaches.ensures.0 w.1))
