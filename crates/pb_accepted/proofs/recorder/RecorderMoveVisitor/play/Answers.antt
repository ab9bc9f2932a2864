use Rattle.std.proofs.Common.{rules}
use Rattle.pb_accepted.proofs.recorder.RecorderMoveVisitor.play.Goals as goal

pub returns-in-None-clause-legal : goal.returns-in-None-clause-legal
returns-in-None-clause-legal c = search rules
