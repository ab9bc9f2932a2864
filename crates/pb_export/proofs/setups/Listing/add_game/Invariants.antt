use Rattle.std.proofs.Common.{take}
use Rattle.pb_export.specs.Setups.{AddsSetups}
use Rattle.pb_export.proofs.setups.Listing.add_game.Given as goal

-- the first setups have been added
abbrev pub invariant-loop-index : goal.invariant-loop-index
invariant-loop-index l = AddsSetups l.table l.book (take l.index l.setups.items) l.initial.self l.self
