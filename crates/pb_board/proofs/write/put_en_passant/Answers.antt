use Rattle.std.proofs.Common.{rules}
use Rattle.pb_board.proofs.write.put_en_passant.Goals as goal

pub returns-in-None-clause-text : goal.returns-in-None-clause-text
returns-in-None-clause-text c = search rules
