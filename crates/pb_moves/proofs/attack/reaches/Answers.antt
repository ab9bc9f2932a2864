use Rattle.std.proofs.Common.{◌≡◌, ◌↔◌, arith, bit_and}
use Rattle.std.proofs.lemmas.Bool.{and_parts, eq-eqb, eqb-true}
use Rattle.pb_moves.specs.Attackers.{IsOccupied}
use Rattle.pb_moves.specs.Candidate.{MayTarget}
use Rattle.pb_moves.proofs.Reached.{goes_told}
use Rattle.pb_moves.proofs.Seen.{Open, goes_as, open_told}
use Rattle.pb_moves.proofs.Sets.{in_and, in_both}
use Rattle.pb_moves.proofs.Targets.{both}
use Rattle.pb_moves.proofs.attack.reaches.Goals as goal

pub returns : goal.returns
returns c =
    let board = c.args.setup.now.board in
    let from = c.args.from in
    let to = c.args.to in
    let on = c.has.ensures.on_board in
    let taken : IsOccupied c.occupied.result board = λ q in_q. c.occupied.ensures.squares q in
    let way : MayTarget c.args.piece.colour c.args.piece.kind from to → (bit_and c.between.result c.occupied.result ≡ 0) ↔ Open c.occupied.result from to = λ target.
    (let goes = goes_as c.args.piece.colour c.args.piece.kind from to target in
    open_told c.occupied.result c.between.result from to (omega arith) (c.between.ensures goes.0 goes.1)) in
    let told = goes_told c.args.piece.colour c.args.piece.kind board from to c.occupied.result c.is_empty-takes.result taken c.is_empty-takes.ensures.value in
    let row = c.targets.ensures.squares to on in
    let ways = c.ways.ensures to on in (
      λ h.
          let parts = and_parts _ _ h in
          let w = in_and _ _ to (c.has.ensures.inside.0 parts.0) in
          told.0 (row.0 w.0, ways.0 w.1, (way (row.0 w.0)).0 (eqb-true _ _ parts.1)),
      λ goes.
          let w = told.1 goes in
          both _ _ (c.has.ensures.inside.1 (in_both _ _ to (row.1 w.0) (ways.1 w.1))) (eq-eqb _ _ ((way w.0).1 w.2)),
    )
