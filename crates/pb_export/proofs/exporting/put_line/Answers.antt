use Rattle.std.proofs.Common.{◌++◌, ◌∙◌, ap}
use Rattle.std.specs.Prelude.{codes, flat_map}
use Rattle.std.proofs.lemmas.Result.{on_ok_weaker}
use Rattle.pb_export.specs.Setups.{spaced_move}
use Rattle.pb_export.proofs.MoveLines.{extended}
use Rattle.pb_export.proofs.exporting.put_line.Goals as goal

pub returns : goal.returns
returns c =
    let end = extended c.extend_from_slice-3.result c.put_moves.new.line.items (codes ";\n") c.extend_from_slice-3.new.self.items c.extend_from_slice-3.ensures.items in
    on_ok_weaker c.extend_from_slice-3.result (λ put.
    let begun = c.in_ok-extend_from_slice.ensures.items ∙ ap (λ xs. xs ++ c.args.fields.now) c.clear.ensures.items in
    let named = c.in_ok-extend_from_slice-2.ensures.items ∙ ap (λ xs. xs ++ codes " bkm") begun in
    put ∙ ap (λ xs. xs ++ codes ";\n") (c.in_ok-put_moves.ensures ∙ ap (λ xs. xs ++ flat_map spaced_move c.args.moves.now) named)) end
