use Rattle.std.proofs.Common.{take}
use Rattle.pb_export.specs.Setups.{ListsSetups, all_setups}
use Rattle.pb_export.proofs.setups.Listing.of.Given as goal

abbrev pub invariant-loop-index : goal.invariant-loop-index
invariant-loop-index g l = ListsSetups l.ledger.basis.randoms l.book (all_setups (take l.index l.ledger.accepted)) l.listing.moves.items l.listing.setups.items
