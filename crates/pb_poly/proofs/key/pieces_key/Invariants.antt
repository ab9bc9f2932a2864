use Rattle.std.proofs.Common.{◌≡◌, drop}
use Rattle.pb_poly.specs.Key.{piece_offsets}
use Rattle.pb_poly.specs.KeyChange.{toggled}
use Rattle.pb_poly.proofs.key.pieces_key.Given as goal

-- the pieces from this square on make the key whole
abbrev pub invariant-loop-square : goal.invariant-loop-square
invariant-loop-square l = toggled l.table l.key (piece_offsets (drop l.square l.board) l.square) ≡ toggled l.table 0 (piece_offsets l.board 0)
