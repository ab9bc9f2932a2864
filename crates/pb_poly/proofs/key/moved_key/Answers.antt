use Rattle.std.proofs.Common.{◌≡◌, ◌∙◌, ap, sym, ℕ, List, Option, []}
use Rattle.std.specs.Option.{option_map_or}
use Rattle.pb_board.specs.declared.setup.MovedPiece.{MovedPiece}
use Rattle.pb_board.specs.Board.{at}
use Rattle.pb_poly.specs.KeyChange.{going_offsets, square_offsets, toggled}
use Rattle.pb_poly.proofs.Keys.{toggled_three}
use Rattle.pb_poly.proofs.key.moved_key.Goals.{in-Some, in-None}
use Rattle.pb_poly.proofs.key.moved_key.Goals as goal

pub returns : goal.returns
returns c =
    let randoms = c.args.table.now in
    let e = c.args.effect.now in
    let follows : Option MovedPiece → List ℕ = λ o. option_map_or (λ p. going_offsets p.piece p) o [] in
    let second : c.match-effect.second ≡ toggled randoms 0 (follows e.second) = elim c.match-effect.branch [
      | in-Some w ↦ w.second-is ∙ w.going_key-second.ensures ∙ ap (λ o. toggled randoms 0 (follows o)) (sym w.in-Some.is)
      | in-None w ↦ w.second-is ∙ ap (λ o. toggled randoms 0 (follows o)) (sym w.in-None.is)
    ] in
    rw (c.going_key-first.ensures, c.taken_key-taken.ensures, second)
    (sym (toggled_three randoms 0 (going_offsets e.piece e.first) (square_offsets (at c.args.before.now.board e.first.to) e.first.to) (follows e.second)))
