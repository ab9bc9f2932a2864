use Rattle.pb_io.proofs.EndLemmas.{known_of}
use Rattle.pb_commands.proofs.laws.epd_ends.Goals as goal

pub returns : goal.returns
returns c fills s s' k k' answer ends = known_of fills s s' _ ends.0
