use Rattle.std.proofs.Common.{rules}
use Rattle.pb_accepted.proofs.recorder.RecorderMoveVisitor.begin.Goals as goal

pub returns-clause-holds : goal.returns-clause-holds
returns-clause-holds c = search rules
