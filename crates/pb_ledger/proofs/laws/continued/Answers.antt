use Rattle.pb_ledger.proofs.SavedLoading.{continued}
use Rattle.pb_ledger.proofs.laws.continued.Goals as goal

pub returns : goal.returns
returns c = continued
