use Rattle.std.proofs.Common.{◌≡◌, ℕ, ◌+◌, ◌*◌, subst, arith}
use Rattle.pb_moves.specs.Candidate.{ListsBelow}
use Rattle.pb_moves.proofs.Listed.{lists_all}
use Rattle.pb_moves.proofs.listing.legal_moves.Goals as goal

pub returns : goal.returns
returns c =
    let end : c.loop-index.index ≡ 64 = omega arith in
    let P : ℕ → Type 0 = λ i. ListsBelow c.args.setup.now c.loop-index.moves.items (320 * i) in
    lists_all c.args.setup.now c.loop-index.moves.items (subst P end c.loop-index.invariant)

pub loop-index-preserved : goal.loop-index-preserved
loop-index-preserved c =
    let L : ℕ → Type 0 = λ n. ListsBelow c.args.setup.now c.push_from.new.moves.items n in
    let next : 320 * c.square_at.result + 320 ≡ 320 * (c.loop-index.index + 1) = omega (arith, c.square_at.ensures) in
    subst L next c.in_ok-push_from.ensures
