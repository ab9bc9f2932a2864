use Rattle.std.proofs.Common.{◌-◌, ◌^◌}
use Rattle.std.specs.Option.{option_map_or}
use Rattle.pb_ledger.proofs.Booked.{Begun}
use Rattle.pb_ledger.proofs.booking.save_book.Given as goal

-- nothing was put yet, or the entries before the next stretch were, and counted
abbrev pub invariant-loop-next : goal.invariant-loop-next
invariant-loop-next g l = Begun l.ledger l.next (g.K.Sink.state l.initial.sink) (g.K.Sink.state l.sink) l.count

-- the keys from the next stretch on
abbrev pub decreases-loop-next : goal.decreases-loop-next
decreases-loop-next g l = option_map_or (λ n. 2 ^ 64 - n) l.next 0
