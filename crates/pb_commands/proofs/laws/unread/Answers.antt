use Rattle.pb_commands.proofs.Unread.{journal_unread}
use Rattle.pb_commands.proofs.laws.unread.Goals as goal

pub returns : goal.returns
returns c = record {
  collect = λ rules fills e why run. run.1;
  continued = λ rules fills e saved why run. run.1;
  journaled = journal_unread;
}
