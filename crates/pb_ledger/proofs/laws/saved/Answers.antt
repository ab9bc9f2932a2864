use Rattle.std.proofs.Common.{refl, subst, sym}
use Rattle.pb_io.specs.Lines.{lines}
use Rattle.pb_ledger.specs.Saving.{Loads}
use Rattle.pb_ledger.proofs.SavedLoading.{loaded_whole, loads_only, loads_saved, only_memory}
use Rattle.pb_ledger.proofs.laws.saved.Goals as goal

pub returns : goal.returns
returns c = record {
  loads = λ cap A B bytes games own room saved. (
    loads_only cap A bytes games own room saved B,
    λ is. subst (Loads cap (lines bytes)) (sym is) (loads_saved cap A bytes games own room saved),
  );
  back = λ fills source ledger A bytes games own room saved tells. (
    loaded_whole _ A bytes games own room saved fills source.old source.new tells ledger.old ledger.new refl,
    only_memory _ A bytes games own room saved fills source.old source.new tells ledger.old ledger.new refl,
  );
}
