use Rattle.std.proofs.Common.{Err, Ok, ap, inl, inr, refl, rules, sym, ◌∙◌, ◌≡◌, false, true}
use Rattle.std.proofs.lemmas.Bool.{not-false}
use Rattle.pb_games.specs.declared.refusal.Refusal.TheVariants.{Memory}
use Rattle.pb_ledger.specs.Saving.{is_header}
use Rattle.pb_ledger.proofs.Loaded.{header_shown, judged_refused, judged_repeat, judged_taken, not_true, submitted_so}
use Rattle.pb_ledger.proofs.saving.LoaderLineTask.take.Goals as goal
use Rattle.pb_ledger.proofs.saving.LoaderLineTask.take.Goals.{then-accepted, else-accepted, else-is_first-via-then-is_first+else-eq, else-is_first-via-else-is_first, in_default-via-in-Ok+else-not-self, in_default-via-in-Err+else-eq-2}

pub returns-in-Err : goal.returns-in-Err
returns-in-Err g c whole is =
    let other : c.args.self.now.lines ≡ 0 → is_header whole ≡ false = λ zero. elim c.else-is_first.branch [
      | else-is_first-via-then-is_first+else-eq w ↦ header_shown c.args.line _ w.unwrap_or.result w.without_return.result.now whole w.eq.result is refl w.unwrap_or.ensures w.without_return.ensures w.eq.ensures ∙ w.if-eq.false
      | else-is_first-via-else-is_first w ↦ absurd (w.if-is_first.false zero)
    ] in
    let memory : c.in-Err.refusal ≡ Memory = search rules in
    submitted_so c.args.self.now c.submit_full.new.self _ c.args.line whole (Err c.in-Err.refusal) _ c.saturating_add-self.ensures other is c.in-Err.ensures.step c.in-Err.ensures.rest
    (λ step. ap (λ e. Err e) memory)

pub returns-in-Ok : goal.returns-in-Ok
returns-in-Ok g c whole is =
    let other : c.args.self.now.lines ≡ 0 → is_header whole ≡ false = λ zero. elim c.else-is_first.branch [
      | else-is_first-via-then-is_first+else-eq w ↦ header_shown c.args.line _ w.unwrap_or.result w.without_return.result.now whole w.eq.result is refl w.unwrap_or.ensures w.without_return.ensures w.eq.ensures ∙ w.if-eq.false
      | else-is_first-via-else-is_first w ↦ absurd (w.if-is_first.false zero)
    ] in
    let s = c.args.self.now in
    submitted_so s c.submit_full.new.self _ c.args.line whole (Ok c.in-Ok.accepted) _ c.saturating_add-self.ensures other is c.in-Ok.ensures.step c.in-Ok.ensures.rest
    (λ step. judged_taken s.is_saved c.saturating_add-self.result s.ledger.now.cap s.ledger.now.accepted whole _ c.in-Ok.accepted step c.in-Ok.ensures.new (elim c.if-accepted.branch [
      | then-accepted w ↦ inl w.if-accepted.true
      | else-accepted w ↦ inr (not_true s.is_saved (sym w.value-is ∙ c.if-not-self.true))
    ]))

pub returns-in_default : goal.returns-in_default
returns-in_default g c whole is =
    let other : c.args.self.now.lines ≡ 0 → is_header whole ≡ false = λ zero. elim c.else-is_first.branch [
      | else-is_first-via-then-is_first+else-eq w ↦ header_shown c.args.line _ w.unwrap_or.result w.without_return.result.now whole w.eq.result is refl w.unwrap_or.ensures w.without_return.ensures w.eq.ensures ∙ w.if-eq.false
      | else-is_first-via-else-is_first w ↦ absurd (w.if-is_first.false zero)
    ] in
    let s = c.args.self.now in
    elim c.in_default.branch [
      | in_default-via-in-Ok+else-not-self w ↦
          submitted_so s c.submit_full.new.self _ c.args.line whole (Ok w.in-Ok.accepted) _ c.saturating_add-self.ensures other is w.in-Ok.ensures.step w.in-Ok.ensures.rest
          (λ step. elim w.if-accepted.branch [
            | then-accepted w' ↦ let bad : true ≡ false = sym w'.if-accepted.true ∙ sym w'.value-is ∙ w.if-not-self.false in absurd (cc)
            | else-accepted w' ↦ judged_repeat s.is_saved _ s.ledger.now.cap s.ledger.now.accepted whole _ w.in-Ok.accepted step w.in-Ok.ensures.new w'.if-accepted.false (not-false s.is_saved (sym w'.value-is ∙ w.if-not-self.false))
          ])
      | in_default-via-in-Err+else-eq-2 w ↦
          submitted_so s c.submit_full.new.self _ c.args.line whole (Err w.in-Err.refusal) _ c.saturating_add-self.ensures other is w.in-Err.ensures.step w.in-Err.ensures.rest
          (λ step. judged_refused s.is_saved _ s.ledger.now.cap s.ledger.now.accepted whole _ w.in-Err.refusal step (λ memory. search rules))
    ]
