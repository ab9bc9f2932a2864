use Rattle.std.proofs.Common.{◌≡◌}
use Rattle.pb_board.specs.Bitboards.{bitboards_of}
use Rattle.pb_board.proofs.BitboardBits.{started}
use Rattle.pb_board.proofs.bitboards.bitboards_of.Given as goal

-- the bitboards are those of the places before this one
abbrev pub invariant-loop-index : goal.invariant-loop-index
invariant-loop-index l = l.bitboards ≡ bitboards_of (started l.index l.board)
