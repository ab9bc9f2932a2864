use Rattle.pb_games.proofs.WorkedLine as line
use Rattle.pb_games.proofs.laws.worked.Goals as goal

pub returns : goal.returns
returns c = record { lawful = line.lawful; check = line.checked }
