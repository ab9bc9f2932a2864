use Rattle.std.proofs.Common.{sym, subst}
use Rattle.std.specs.List.{IsDistinct}
use Rattle.pb_points.specs.Rows.{same_pair}
use Rattle.pb_points.proofs.Pairs.{IsDistinct-nil}
use Rattle.pb_points.proofs.list_tally.ListTallyTally.new.Goals as goal

pub invariant_of-result : goal.invariant_of-result
invariant_of-result c = subst (IsDistinct same_pair) (sym c.new.ensures.items) IsDistinct-nil
