use Rattle.std.proofs.Common.{rules}
use Rattle.pb_io.proofs.fuse.FuseSourceSource.fill.Goals as goal

pub returns-then-self-2-clause-fill : goal.returns-then-self-2-clause-fill
returns-then-self-2-clause-fill c = search rules

pub returns-then-self-2-clause-fuse : goal.returns-then-self-2-clause-fuse
returns-then-self-2-clause-fuse c = search rules

pub returns-then-self-2-clause-untouched : goal.returns-then-self-2-clause-untouched
returns-then-self-2-clause-untouched c = search rules
