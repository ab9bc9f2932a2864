use Rattle.std.proofs.Common.{rules}
use Rattle.pb_accepted.proofs.reply.Reply.as_bytes.Goals as goal

pub returns : goal.returns
returns c = search rules
