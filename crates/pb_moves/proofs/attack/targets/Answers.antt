use Rattle.std.proofs.Common.{ℕ, ◌↔◌, sym, subst}
use Rattle.pb_moves.specs.Attackers.{In}
use Rattle.pb_moves.specs.Candidate.{MayTarget, target_row}
use Rattle.pb_moves.proofs.Targets.{entry, row_tells}
use Rattle.pb_moves.proofs.attack.targets.Goals as goal

pub returns-clause-squares : goal.returns-clause-squares
returns-clause-squares c = λ to on.
    let side = c.args.piece.colour in
    let kind = c.args.piece.kind in
    let R : ℕ → Type 0 = λ row. In (entry row c.index.result) to ↔ MayTarget side kind c.args.from to in
    let S : ℕ → Type 0 = λ a. In (entry (target_row kind side) c.index.result) to ↔ MayTarget side kind a to in
    subst R (sym c.row.ensures) (subst S c.index.ensures.value (row_tells side kind c.index.result to c.index.ensures.below on))
