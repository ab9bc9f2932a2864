use Rattle.std.proofs.Common.{◌≡◌, length}
use Rattle.pb_board.specs.Board.{Board}
use Rattle.pb_board.specs.Bitboards.{bitboards_of}
use Rattle.pb_board.proofs.BitboardBits.{started}
use Rattle.pb_board.proofs.bitboards.board_of.Given as goal

-- the places before this one are those of the board
abbrev pub invariant-loop-index : goal.invariant-loop-index
invariant-loop-index l = (b : Board) → length b ≡ 64 → l.bitboards ≡ bitboards_of b → l.board ≡ started l.index b
