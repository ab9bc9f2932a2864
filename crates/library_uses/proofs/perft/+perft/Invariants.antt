use Rattle.std.proofs.Common.{◌≡◌, ℕ, ◌-◌, ◌^◌, min, take}
use Rattle.library_uses.specs.Perft.{Counts}
use Rattle.library_uses.proofs.Lines.{Begins}
use Rattle.library_uses.proofs.perft.+perft.Given as goal

abbrev pub decreases-perft : goal.decreases-perft
decreases-perft l = l.depth

abbrev pub invariant-loop-m : goal.invariant-loop-m
invariant-loop-m l = (number : ℕ) × Counts (Begins l.setup (take l.m-index l.m-items) (l.depth - 1)) number × (l.count ≡ min number (2 ^ 64 - 1))
