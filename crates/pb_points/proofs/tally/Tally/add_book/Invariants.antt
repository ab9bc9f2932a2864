use Rattle.std.proofs.Common.{◌-◌, ◌^◌}
use Rattle.std.specs.Option.{option_map_or}
use Rattle.pb_points.specs.TallyBook.{AddsBookOf, stretch_of}
use Rattle.pb_points.proofs.tally.Tally.add_book.Given as goal

-- the book of the stretches before the next one was added
abbrev pub invariant-loop-next : goal.invariant-loop-next
invariant-loop-next g l = AddsBookOf (stretch_of 0 l.next (g.Self.Tally.content l.self)) l.least l.initial.entries.items l.entries.items

-- the keys from the next stretch on
abbrev pub decreases-loop-next : goal.decreases-loop-next
decreases-loop-next g l = option_map_or (λ n. 2 ^ 64 - n) l.next 0
