use Rattle.std.proofs.Common.{[], Err, ◌++◌, ◌∙◌, append_assoc, ap, refl, subst, sym}
use Rattle.std.specs.Slice.Iter.{chunks_rest}
use Rattle.std.proofs.lemmas.Result.{err_from_is_err_and}
use Rattle.pb_poly.specs.Book.{book_bytes}
use Rattle.pb_poly.proofs.Entries.{book_bytes-append}
use Rattle.pb_ledger.specs.Change.{from_to}
use Rattle.pb_ledger.specs.Booking.{PutsOn}
use Rattle.pb_ledger.proofs.Booked.{cut_at, puts_none, puts_one, puts_stopped, puts_then}
use Rattle.pb_ledger.proofs.booking.put_entries.Goals as goal

pub loop-some-init : goal.loop-some-init
loop-some-init g c = ([], cc, cc, puts_none (g.K.Sink.state c.args.sink.now))

pub loop-some-preserved : goal.loop-some-preserved
loop-some-preserved g c =
    let state = g.K.Sink.state in
    let h = c.loop-some.invariant in
    let some = c.in-Some.some.now in
    let steps = c.in-Some.ensures.steps in (
      h.0 ++ some,
      append_assoc h.0 some _ ∙ ap (λ l. h.0 ++ l) (sym steps.1.0) ∙ h.1,
      steps.0 ∙ h.2,
      subst (PutsOn (from_to (state c.args.sink.now) (state c.write_entries.new.sink))) (sym (book_bytes-append h.0 some))
          (puts_then _ _ _ (book_bytes h.0) (book_bytes some) h.3 (puts_one _ _ c.in_ok-write_entries.field-0 _ c.in_ok-write_entries.ensures)),
    )

pub returns-in_err-write_entries-clause-err : goal.returns-in_err-write_entries-clause-err
returns-in_err-write_entries-clause-err g c =
    let h = c.loop-some.invariant in
    let some = c.in-Some.some.now in
    let behind = chunks_rest c.next.new.self in
    let whole = c.args.entries.now in
    let p = err_from_is_err_and c.from_residual.result c.from_residual.ensures.1 in
    rw p.1 (puts_stopped _ _ _ c.in_err-write_entries.field-0.0 (Err p.0) (book_bytes h.0) (book_bytes some) (book_bytes behind) (book_bytes whole)
    refl (cut_at h.0 some behind _ whole h.1 c.in-Some.ensures.steps.1.0) h.3 c.in_err-write_entries.ensures)
