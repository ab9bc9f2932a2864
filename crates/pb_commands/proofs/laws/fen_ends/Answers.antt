use Rattle.pb_commands.proofs.Shown.{only_write}
use Rattle.pb_commands.proofs.laws.fen_ends.Goals as goal

pub returns : goal.returns
returns c = only_write
