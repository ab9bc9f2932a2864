use Rattle.std.proofs.Common.{◌≡◌, ◌++◌, take}
use Rattle.std.specs.Prelude.{flat_map}
use Rattle.pb_export.specs.Setups.{spaced_move}
use Rattle.pb_export.proofs.exporting.put_moves.Given as goal

abbrev pub invariant-loop-m : goal.invariant-loop-m
invariant-loop-m l = l.line.items ≡ l.fn.line.items ++ flat_map spaced_move (take l.m-index l.moves)
