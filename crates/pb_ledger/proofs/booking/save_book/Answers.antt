use Rattle.std.proofs.Common.{arith, ◌∙◌, ◌++◌, ℕ, Option, ap, inl, inr, refl, subst}
use Rattle.std.proofs.lemmas.Result.{err_from_is_err_and}
use Rattle.pb_accepted.specs.Counting.{stretch}
use Rattle.pb_ledger.proofs.Booked.{Begun, Booking, booking_end, booking_of, breaks, ends, goes_on, unflushed, wants}
use Rattle.pb_ledger.proofs.booking.save_book.Goals as goal

pub loop-next-init : goal.loop-next-init
loop-next-init g c = inl (refl, refl, refl)

pub returns-in_err-next : goal.returns-in_err-next
returns-in_err-next g c =
    let p = err_from_is_err_and c.from_residual.result c.from_residual.ensures.1 in rw (p.1, p.2) (
    wants c.args.ledger.now _ _ c.loop-next.count c.loop-next.next (booking_of _ c.in_err-next.ensures.rules _ _ _ _ c.loop-next.invariant))

pub loop-next-preserved : goal.loop-next-preserved
loop-next-preserved g c =
    let state = g.K.Sink.state in
    let are = c.in_ok-next.ensures.ok in
    inr (goes_on c.args.ledger.now _ _ c.loop-next.count c.in-Some.first c.in_ok-next.next c.deref.result.now c.in_ok-next.ensures.onward
    (are.0, are.1, c.deref.ensures.value ∙ are.2 ∙ ap (λ l. l ++ stretch c.in-Some.first c.in_ok-next.next are.0) c.clear.ensures.items)
    (subst (λ (n : Option ℕ). Booking c.args.ledger.now n (state c.args.sink.now) (state c.loop-next.sink) c.loop-next.count) c.in-Some.is (booking_of _ c.in_ok-next.ensures.rules _ _ _ _ c.loop-next.invariant))
    _ _ (omega (arith, c.saturating_add-count.ensures, c.len.ensures)) c.in_ok-put_entries.ensures.ok)

pub returns-in_err-put_entries : goal.returns-in_err-put_entries
returns-in_err-put_entries g c =
    let state = g.K.Sink.state in
    let are = c.in_ok-next.ensures.ok in
    let p = err_from_is_err_and c.from_residual-in_err-put_entries.result c.from_residual-in_err-put_entries.ensures.1 in rw (p.1, p.2) (
    breaks c.args.ledger.now _ _ c.loop-next.count c.in-Some.first c.in_ok-next.next c.deref.result.now c.in_ok-next.ensures.onward
    (are.0, are.1, c.deref.ensures.value ∙ are.2 ∙ ap (λ l. l ++ stretch c.in-Some.first c.in_ok-next.next are.0) c.clear.ensures.items)
    (subst (λ (n : Option ℕ). Booking c.args.ledger.now n (state c.args.sink.now) (state c.loop-next.sink) c.loop-next.count) c.in-Some.is (booking_of _ c.in_ok-next.ensures.rules _ _ _ _ c.loop-next.invariant))
    _ c.in_err-put_entries.field-0.0 c.in_err-put_entries.ensures.err)

pub returns-in_err-flush : goal.returns-in_err-flush
returns-in_err-flush g c =
    let state = g.K.Sink.state in
    let p = err_from_is_err_and c.from_residual-in_err-flush.result c.from_residual-in_err-flush.ensures.1 in rw (p.1, p.2) (
    unflushed c.args.ledger.now _ _ c.loop-next.count (booking_end _ _ _ _ (subst (λ (n : Option ℕ). Begun c.args.ledger.now n (state c.args.sink.now) (state c.loop-next.sink) c.loop-next.count) c.in_default.is c.loop-next.invariant))
    _ c.in_err-flush.field-0.0 c.in_err-flush.ensures)

pub returns : goal.returns
returns g c =
    let state = g.K.Sink.state in
    ends c.args.ledger.now _ _ c.loop-next.count (booking_end _ _ _ _ (subst (λ (n : Option ℕ). Begun c.args.ledger.now n (state c.args.sink.now) (state c.loop-next.sink) c.loop-next.count) c.in_default.is c.loop-next.invariant))
    _ c.in_ok-flush.field-0 c.in_ok-flush.ensures
