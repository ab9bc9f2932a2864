use Rattle.std.proofs.Common.{ℕ, subst, sym, None, [], ◌∷◌}
use Rattle.pb_board.specs.Board.{Holds}
use Rattle.pb_moves.specs.Successor.{Differs}
use Rattle.pb_moves.proofs.Seen.{sight_lifted}
use Rattle.pb_moves.proofs.check.Sight.without.Goals as goal

pub returns : goal.returns
returns c = λ first old new by own sees gone stands enemy.
    let P : ℕ → Type 0 = λ x. Differs old new ((x, None) ∷ []) in
    let H : ℕ → Type 0 = λ x. Holds old x own in
    let same = sym c.index.ensures.value in
    sight_lifted first old new by c.args.self c.index.result own sees (subst P same gone) (subst H same stands) enemy c.index.ensures.below
