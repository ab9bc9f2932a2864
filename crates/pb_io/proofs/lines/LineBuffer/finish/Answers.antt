use Rattle.std.proofs.Common.{rules}
use Rattle.pb_io.proofs.LineBufferLemmas.{finished, finished_empty}
use Rattle.pb_io.proofs.lines.LineBuffer.finish.Goals as goal

pub returns : goal.returns
returns g c s came h = finished g.T.LineTask.takes s c.args.task.now c.take.new.task came c.args.self.now c.take.result (λ e. let no = c.if-is_empty.ensures.1 e in cc) h c.take.ensures.taken

pub returns-then-is_empty : goal.returns-then-is_empty
returns-then-is_empty g c s came h = finished_empty g.T.LineTask.takes s c.args.task.now came c.args.self.now (search rules) h
