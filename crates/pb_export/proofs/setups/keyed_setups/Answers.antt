use Rattle.std.proofs.Common.{◌++◌, ◌∷◌, [], ◌+◌, ◌∙◌, ap, drop, map, sym, subst}
use Rattle.std.proofs.lemmas.List.{map_push}
use Rattle.pb_board.specs.Position.{Position}
use Rattle.pb_moves.specs.Legal.{PseudoLegal}
use Rattle.pb_moves.specs.Moved.{Moved}
use Rattle.pb_moves.specs.Successor.{after}
use Rattle.pb_poly.specs.Key.{key}
use Rattle.pb_export.proofs.ListedSetups.{Standing, Standing-all, Standing-legal, Standing-more}
use Rattle.pb_export.proofs.setups.keyed_setups.Goals as goal

pub loop-m-preserved : goal.loop-m-preserved
loop-m-preserved c =
    let words = c.args.table.now in
    let game = c.args.game.now in
    let ms = c.as_slice-moves.result.now in
    let s = c.loop-m.setup in
    let i = c.loop-m.m-index in
    let done = c.loop-m.setups.items in
    let new = c.push-in-loop-m.new.self.items in
    let played = c.apply.ensures c.m-item.result c.in-Some.ensures in
    let next = sym (played ∙ ap (λ (m : Moved). after s m) c.m-item.is) in
    record {
      key_is = c.key_next-key.ensures.value ∙ ap (key words) (sym played);
      keys = c.in_ok-push.ensures.items ∙ (λ j. c.loop-m.invariant.keys j ++ c.loop-m.invariant.key_is j ∷ []) ∙ sym (map_push (key words) done s) ∙ ap (map (key words)) (sym c.in_ok-push-2.ensures.items);
      standing = subst (λ (p : Position). Standing game new p (drop (i + 1) ms)) next (Standing-more game done s ms i c.loop-m.invariant.standing c.m-item.result new c.loop-m-test.true c.in_ok-push-2.ensures.items);
    }

pub unreachable-requires : goal.unreachable-requires
unreachable-requires c =
    subst (λ (m : Moved). ¬ PseudoLegal c.loop-m.setup m) c.m-item.is c.in-None.ensures
    (Standing-legal c.args.game.now c.loop-m.setups.items c.loop-m.setup c.as_slice-moves.result.now c.loop-m.m-index c.loop-m.invariant.standing c.m-item.result c.loop-m-test.true).moves

pub returns-clause-setups : goal.returns-clause-setups
returns-clause-setups c = Standing-all c.args.game.now c.loop-m.setups.items c.loop-m.setup c.as_slice-moves.result.now c.loop-m.m-index c.loop-m.invariant.standing c.loop-m-test.false

pub returns-clause-keys : goal.returns-clause-keys
returns-clause-keys c = c.loop-m.invariant.keys ∙ ap (map (key c.args.table.now)) (returns-clause-setups c)
