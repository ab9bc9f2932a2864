use Rattle.std.proofs.Common.{Bor, List, length, refl, subst, sym, ℕ, ◌≤◌}
use Rattle.std.proofs.lemmas.Result.{err_from_is_err_and}
use Rattle.pb_accepted.specs.Accepting.{answer_of, named}
use Rattle.pb_ledger.specs.Collecting.{ungained}
use Rattle.pb_ledger.proofs.Collected.{answered_so, named_shortly, not_kept, submitted}
use Rattle.pb_ledger.proofs.collecting.CollectorLineTask.take.Goals as goal

pub reply-requires : goal.reply-requires
reply-requires g c =
    subst (λ (shown : Bor (List ℕ)). length (named shown.now (answer_of c.submit_full-answer.result)) ≤ 64) (sym c.unwrap_or-line.ensures)
    (named_shortly c.args.self.now.ledger.now c.submit_full-answer.new.self c.args.line c.submit_full-answer.result c.submit_full-answer.ensures.step _)

pub returns-in_err-write_new : goal.returns-in_err-write_new
returns-in_err-write_new g c whole is =
    let l = c.args.self.now.ledger.now in let submit = c.submit_full-answer.ensures in
    let came = submitted l c.submit_full-answer.new.self c.args.line c.submit_full-answer.result submit.step _ c.unwrap_or-line.result whole is c.unwrap_or-line.ensures submit.new submit.rest in
    let p = err_from_is_err_and c.from_residual.result c.from_residual.ensures.1 in rw (p.1, p.2) (
    ungained (not_kept l c.submit_full-answer.new.self whole c.unwrap_or-line.result.now c.submit_full-answer.result came _ _ c.in_err-write_new.field-0.0 c.in_err-write_new.ensures.new (λ old. (c.in_err-write_new.ensures.other old).0))
    refl refl (record { ledger = refl; sink = refl; journal = refl }))

pub returns : goal.returns
returns g c whole is =
    let l = c.args.self.now.ledger.now in let submit = c.submit_full-answer.ensures in let reply = c.reply.ensures in
    let came = submitted l c.submit_full-answer.new.self c.args.line c.submit_full-answer.result submit.step _ c.unwrap_or-line.result whole is c.unwrap_or-line.ensures submit.new submit.rest in
    answered_so g.K.Sink.state g.J.Sink.state c.args.self.now c.reply.new.self c.submit_full-answer.new.self _ whole c.unwrap_or-line.result.now c.submit_full-answer.result c.reply.result came
    c.in_ok-write_new.ensures.new (λ old. (c.in_ok-write_new.ensures.other old).1) reply.counted reply.put reply.stops reply.sink reply.same.0 reply.same.1
