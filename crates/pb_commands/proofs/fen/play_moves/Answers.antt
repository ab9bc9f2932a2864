use Rattle.std.proofs.Common.{◌∙◌, ◌+◌, [], ◌∷◌, ◌++◌, ap, append_assoc, refl, subst, sym}
use Rattle.std.specs.List.{AllZip}
use Rattle.std.proofs.lemmas.List.{length_push}
use Rattle.std.proofs.lemmas.List.Elements.{All-head, All-rest, All-same, All-tail}
use Rattle.pb_board.proofs.Breaks.{breaks_from}
use Rattle.pb_moves.specs.Played.{IsSpelled, Spells}
use Rattle.pb_commands.specs.FenShown.{MayPlay}
use Rattle.pb_commands.proofs.Moves.{last_legal, plays_more, spelt_joined, spelt_moves, texts_from}
use Rattle.pb_commands.proofs.fen.play_moves.Goals as goal

pub loop-index-init : goal.loop-index-init
loop-index-init c = record {
  done = [];
  moves = [];
  cut = refl;
  count = refl;
  spelt = tt;
  plays = refl;
  to_come = c.requires.spelt;
}

pub returns-in_default : goal.returns-in_default
returns-in_default c =
    let so_far = c.loop-index.invariant in
    let rest_is = texts_from c.args.move_texts.now c.loop-index.index _ c.loop-index-test.true in
    let to_come = All-same IsSpelled _ _ (sym rest_is) so_far.to_come in
    let others = spelt_moves _ (All-tail IsSpelled _ _ to_come) in
    let this = c.in_default.ensures (All-head IsSpelled _ _ to_come) in
    let moves = so_far.moves ++ this.0 ∷ others.0 in (
      moves,
      subst (λ ws. AllZip Spells ws moves) (ap (λ ws. so_far.done ++ ws) (sym rest_is) ∙ so_far.cut)
          (spelt_joined so_far.done so_far.moves _ (this.0 ∷ others.0) so_far.spelt (this.1, others.1)),
      breaks_from (MayPlay c.args.start) moves so_far.moves this.0 others.0 _ refl (ap (λ n. n + 1) (sym so_far.count)) (c.loop-index.record, so_far.plays)
          (λ played. this.2 (last_legal c.args.start so_far.moves c.loop-index.record this.0 played.0 so_far.plays played.1)),
    )

pub loop-index-preserved : goal.loop-index-preserved
loop-index-preserved c =
    let so_far = c.loop-index.invariant in
    let rest_is = texts_from c.args.move_texts.now c.loop-index.index _ c.loop-index-test.true in
    let played = c.in-Some.ensures in record {
      done = so_far.done ++ _ ∷ [];
      moves = so_far.moves ++ played.0 ∷ [];
      cut = append_assoc so_far.done _ _ ∙ ap (λ ws. so_far.done ++ ws) (sym rest_is) ∙ so_far.cut;
      count = length_push so_far.moves played.0 ∙ ap (λ n. n + 1) so_far.count;
      spelt = spelt_joined so_far.done so_far.moves _ (played.0 ∷ []) so_far.spelt (played.1, tt);
      plays = plays_more c.args.start so_far.moves c.loop-index.record played.0 c.in-Some.next so_far.plays played.2 played.3;
      to_come = All-rest IsSpelled _ _ _ rest_is so_far.to_come;
    }
