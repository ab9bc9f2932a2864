use Rattle.std.proofs.Common.{ℕ, subst, sym, ◌∙◌, Some, None, [], ◌∷◌}
use Rattle.pb_board.specs.Board.{Holds}
use Rattle.pb_moves.specs.Successor.{Differs}
use Rattle.pb_moves.proofs.Seen.{sight_carried}
use Rattle.pb_moves.proofs.check.Sight.after.Goals as goal

pub returns : goal.returns
returns c = λ first old new by piece own sees moved other stands enemy.
    let f = c.index.result in
    let t = c.index-2.result in
    let P : ℕ → Type 0 = λ x. Differs old new ((x, None) ∷ (c.args.to, Some piece) ∷ []) in
    let Q : ℕ → Type 0 = λ x. Differs old new ((c.index.result, None) ∷ (x, Some piece) ∷ []) in
    let H : ℕ → Type 0 = λ x. Holds old x own in
    let moved_f = subst P (sym c.index.ensures.value) moved in
    let moved_t = subst Q (sym c.index-2.ensures.value) moved_f in
    sight_carried first old new by c.args.self f t piece own sees moved_t other (subst H (sym c.index.ensures.value) stands) enemy c.index.ensures.below c.index-2.ensures.below
    (λ e. c.requires (sym c.index.ensures.value ∙ (e ∙ c.index-2.ensures.value)))
