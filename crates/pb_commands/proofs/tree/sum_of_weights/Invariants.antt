use Rattle.std.proofs.Common.{◌≡◌, ◌≤◌, ◌*◌, take}
use Rattle.pb_commands.specs.Tree.{sum_of_weights}
use Rattle.pb_commands.proofs.tree.sum_of_weights.Given as goal

-- those before this one were added, and there is room for the others
abbrev pub invariant-loop-weight : goal.invariant-loop-weight
invariant-loop-weight l = (l.sum ≡ sum_of_weights (take l.weight-index l.found)) × (l.sum ≤ 65535 * l.weight-index)
