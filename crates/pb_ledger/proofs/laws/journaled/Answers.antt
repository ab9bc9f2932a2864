use Rattle.pb_ledger.proofs.Journals.{journal_goes_on, journal_grows, journal_is_one, journal_may_tear, mending_may_tear}
use Rattle.pb_ledger.proofs.laws.journaled.Goals as goal

pub returns : goal.returns
returns c = record { one = journal_is_one; goes_on = journal_goes_on; mends = mending_may_tear; grows = journal_grows; tears = journal_may_tear }
