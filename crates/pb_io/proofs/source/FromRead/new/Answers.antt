use Rattle.std.proofs.Common.{rules}
use Rattle.pb_io.proofs.source.FromRead.new.Goals as goal

pub returns : goal.returns
returns g c = search rules
