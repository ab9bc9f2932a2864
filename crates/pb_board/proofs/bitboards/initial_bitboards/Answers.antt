use Rattle.std.proofs.Common.{refl}
use Rattle.pb_board.specs.Initial.{initial_board}
use Rattle.pb_board.specs.Bitboards.{bitboard_of, bitboards_of}
use Rattle.pb_board.proofs.bitboards.initial_bitboards.Goals as goal

pub returns : goal.returns
unfolding initial_board bitboard_of bitboards_of
returns c = refl
