use Rattle.std.proofs.Common.{◌∙◌, sym}
use Rattle.std.proofs.lemmas.List.{append_cancel_left}
use Rattle.pb_io.proofs.laws.handed_is_one.Goals as goal

pub returns : goal.returns
returns c = λ old new a b h k. append_cancel_left old.handed a b (sym h.handed ∙ k.handed)
