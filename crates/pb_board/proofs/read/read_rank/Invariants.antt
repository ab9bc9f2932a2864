use Rattle.std.proofs.Common.{drop}
use Rattle.pb_board.proofs.Ranks.{InRank}
use Rattle.pb_board.proofs.read.read_rank.Given as goal

abbrev pub invariant-loop-byte : goal.invariant-loop-byte
invariant-loop-byte l = InRank l.text l.squares l.file l.after_digit (drop l.byte-index l.text)
