use Rattle.std.proofs.Common.{rules}
use Rattle.pb_io.proofs.lines.LineBuffer.end_line.Goals as goal

pub returns-then-bytes-le-LINE_LIMIT-clause-taken : goal.returns-then-bytes-le-LINE_LIMIT-clause-taken
returns-then-bytes-le-LINE_LIMIT-clause-taken g c = search rules
