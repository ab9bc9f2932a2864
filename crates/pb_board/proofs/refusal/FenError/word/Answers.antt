use Rattle.std.proofs.Common.{rules}
use Rattle.pb_board.proofs.refusal.FenError.word.Goals as goal

pub returns-in-EnPassantText : goal.returns-in-EnPassantText
returns-in-EnPassantText c = search rules
