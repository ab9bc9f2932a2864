use Rattle.std.proofs.Common.{Err, Ok, ap, refl, rules, ◌≡◌}
use Rattle.pb_games.specs.declared.refusal.Refusal.TheVariants.{Memory}
use Rattle.pb_ledger.proofs.Replayed.{stops_refused, stops_taken, submitted_so}
use Rattle.pb_ledger.proofs.journal.ReplayerLineTask.take.Goals as goal

pub returns-in-Err : goal.returns-in-Err
returns-in-Err g c whole is =
    let memory : c.in-Err.refusal ≡ Memory = search rules in
    submitted_so c.args.self.now c.submit_full.new.self _ _ c.args.line whole _ (Err c.in-Err.refusal) _ c.if-not-is_ended.false is c.in-Err.ensures.step c.in-Err.ensures.rest (ap (λ e. Err e) memory, refl)

pub returns-in-Err-2 : goal.returns-in-Err-2
returns-in-Err-2 g c whole is =
    submitted_so c.args.self.now c.submit_full.new.self _ _ c.args.line whole _ (Err c.in-Err.refusal) _ c.if-not-is_ended.false is c.in-Err.ensures.step c.in-Err.ensures.rest
    (stops_refused c.in-Err.refusal (λ memory. search rules))

pub returns-in-Ok : goal.returns-in-Ok
returns-in-Ok g c whole is =
    submitted_so c.args.self.now c.submit_full.new.self _ _ c.args.line whole _ (Ok c.in-Ok.field-0) _ c.if-not-is_ended.false is c.in-Ok.ensures.step c.in-Ok.ensures.rest (stops_taken c.in-Ok.field-0.number)
