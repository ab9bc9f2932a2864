-- A run that was refused read no submission.
use Rattle.std.proofs.Common.{ℕ, Err, inl, inr}
use Rattle.pb_accepted.specs.Rules.{CountingRules}
use Rattle.pb_commands.specs.declared.stop.Refused.{Refused}
use Rattle.pb_commands.specs.declared.stop.Stopped.TheVariants as stopped
use Rattle.pb_commands.specs.Runs.{EndStates, IsSame, JournalStates, JournalRun}

pub journal_unread : (rules : CountingRules) (fills : ℕ) (e : EndStates) (j : JournalStates) (why : Refused) → JournalRun rules fills e j (Err (stopped.Refused why)) → IsSame e.lines × IsSame j.kept × IsSame j.journal
journal_unread rules fills e j why (lines, inl (none, kept, journal)) = (lines, kept, journal)
journal_unread rules fills e j why (lines, inr (new, left, opens, fault, until, replies, is)) = absurd (cc is)
