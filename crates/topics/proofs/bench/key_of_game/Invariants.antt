use Rattle.std.proofs.Common.{◌≡◌}
use Rattle.pb_poly.specs.Key.{key}
use Rattle.topics.proofs.bench.key_of_game.Given as goal

abbrev pub invariant-loop-m : goal.invariant-loop-m
invariant-loop-m l = l.key ≡ key l.table l.setup
