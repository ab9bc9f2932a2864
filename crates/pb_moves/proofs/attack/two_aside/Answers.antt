use Rattle.std.proofs.Common.{◌≡◌, ℕ, ◌↔◌, subst}
use Rattle.pb_moves.specs.Attackers.{In}
use Rattle.pb_moves.specs.Attacks.{files_apart, ranks_apart}
use Rattle.pb_moves.proofs.Targets.{aside_tells, two_aside}
use Rattle.pb_moves.proofs.attack.two_aside.Goals as goal

pub returns : goal.returns
returns c = λ to on.
    let index = c.index-index in
    let S : ℕ → Type 0 = λ a. In (two_aside c.index-index.result) to ↔ ((files_apart a to ≡ 2) × (ranks_apart a to ≡ 0)) in
    subst S index.ensures.value (aside_tells index.result to index.ensures.below on)
