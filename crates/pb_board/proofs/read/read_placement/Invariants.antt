use Rattle.std.proofs.Common.{◌-◌}
use Rattle.pb_board.proofs.Boards.{InBoard}
use Rattle.pb_board.proofs.read.read_placement.Given as goal

abbrev pub invariant-loop-row : goal.invariant-loop-row
invariant-loop-row l = InBoard l.text l.board (8 - l.row) l.rest
