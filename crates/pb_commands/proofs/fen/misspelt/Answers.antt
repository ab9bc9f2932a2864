use Rattle.std.proofs.Common.{◌∙◌, ◌+◌, [], ◌∷◌, ◌++◌, ap, append-nil, append_assoc, arith, not}
use Rattle.std.proofs.Common.{sym}
use Rattle.std.proofs.lemmas.List.{length_push}
use Rattle.std.proofs.lemmas.List.Elements.{All-push, All-same}
use Rattle.pb_board.proofs.Breaks.{all_breaks}
use Rattle.pb_moves.specs.Played.{IsSpelled}
use Rattle.pb_commands.specs.FenShown.{texts}
use Rattle.pb_commands.proofs.Moves.{is_spelt, isnt_spelt, texts_from, texts_past}
use Rattle.pb_commands.proofs.fen.misspelt.Goals as goal

pub loop-index-preserved : goal.loop-index-preserved
loop-index-preserved c =
    let so_far = c.loop-index.invariant in
    let rest_is = texts_from c.args.move_texts.now c.loop-index.index _ c.loop-index-test.true in record {
      done = so_far.done ++ _ ∷ [];
      cut = append_assoc so_far.done _ _ ∙ ap (λ ws. so_far.done ++ ws) (sym rest_is) ∙ so_far.cut;
      count = length_push so_far.done _ ∙ ap (λ n. n + 1) so_far.count;
      spelt = All-push IsSpelled so_far.done _ so_far.spelt (is_spelt _ _ c.read_move.result c.as_bytes.ensures.value (c.is_none.ensures ∙ ap not c.if-is_none.false) c.read_move.ensures);
    }

pub returns : goal.returns
returns c =
    let so_far = c.loop-index.invariant in
    let past = texts_past c.args.move_texts.now c.loop-index.index c.loop-index-test.false in
    All-same IsSpelled _ so_far.done (sym so_far.cut ∙ ap (λ ws. so_far.done ++ ws) past ∙ append-nil so_far.done) so_far.spelt

pub returns-then-is_none : goal.returns-then-is_none
returns-then-is_none c =
    let so_far = c.loop-index.invariant in
    let rest_is = texts_from c.args.move_texts.now c.loop-index.index _ c.loop-index-test.true in
    all_breaks IsSpelled (texts c.args.move_texts.now) so_far.done _ _ (c.loop-index.index + 1)
    (sym so_far.cut ∙ ap (λ ws. so_far.done ++ ws) rest_is) (omega (arith, so_far.count)) so_far.spelt
    (isnt_spelt _ _ c.read_move.result c.as_bytes.ensures.value (c.is_none.ensures ∙ ap not c.if-is_none.true) c.read_move.ensures)
