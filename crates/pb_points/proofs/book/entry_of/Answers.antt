use Rattle.std.proofs.Common.{rules}
use Rattle.pb_points.proofs.book.entry_of.Goals as goal

pub returns : goal.returns
returns c = search rules
