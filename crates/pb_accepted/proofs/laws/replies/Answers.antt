use Rattle.pb_accepted.proofs.OneReason.{lawful_is_not_refused, one_reason}
use Rattle.pb_accepted.proofs.Replyings.{replies_are, replies_number, reply_from, run_to}
use Rattle.pb_accepted.proofs.laws.replies.Goals as goal

pub returns : goal.returns
returns c = record { run = run_to; answers = reply_from; reason = one_reason; lawful = lawful_is_not_refused; lines = replies_are; numbers = replies_number }
