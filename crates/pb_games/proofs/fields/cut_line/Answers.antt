use Rattle.std.proofs.Common.{◌≡◌, ◌∙◌, [], ℕ, List, ap, arith, length, rules, slice_index_or, subst}
use Rattle.std.proofs.Common.{sym}
use Rattle.std.proofs.lemmas.Result.{err_from_is_err_and}
use Rattle.pb_games.specs.Ids.{IsId}
use Rattle.pb_games.specs.declared.refusal.Refusal.TheVariants as refusal
use Rattle.pb_games.proofs.Dues.{first_due, none_at_first}
use Rattle.pb_games.proofs.Headers.{shape_refused, id_refused}
use Rattle.pb_games.proofs.fields.cut_line.Goals as goal

pub returns-then-line-gt-MAX_BYTES-clause-refused : goal.returns-then-line-gt-MAX_BYTES-clause-refused
returns-then-line-gt-MAX_BYTES-clause-refused c = first_due refusal.Long c.args.line.now (none_at_first c.args.line.now) c.if-line-gt-MAX_BYTES.true

pub returns-in_err-fields-clause-refused : goal.returns-in_err-fields-clause-refused
returns-in_err-fields-clause-refused c =
    let p = err_from_is_err_and c.from_residual.result c.from_residual.ensures.1 in
    let none = rw c.in_err-fields.ensures.ok_part at c.cut_fields.ensures.cut in
    let is : c.in_err-fields.field-0.0 ≡ refusal.Shape = cc (rw c.in_err-fields.ensures.ok_part at c.in_err-fields.ensures.value) in
    rw (p.1, p.2, is) (shape_refused c.args.line.now c.if-line-gt-MAX_BYTES.false none)

pub returns-then-not-is_id-clause-refused : goal.returns-then-not-is_id-clause-refused
returns-then-not-is_id-clause-refused c =
    id_refused c.args.line.now c.if-line-gt-MAX_BYTES.false _ _ _ _ (rw c.in_ok-fields.ensures.ok_part at c.cut_fields.ensures.cut) (λ is. absurd (search (rules, c.is_id.ensures.1 is)))

pub returns-then-line-gt-MAX_BYTES-clause-each : goal.returns-then-line-gt-MAX_BYTES-clause-each
returns-then-line-gt-MAX_BYTES-clause-each c = λ f cut. absurd (omega (arith, cut.short, c.if-line-gt-MAX_BYTES.true))

pub returns-in_err-fields-clause-each : goal.returns-in_err-fields-clause-each
returns-in_err-fields-clause-each c =
    let none = rw c.in_err-fields.ensures.ok_part at c.cut_fields.ensures.cut in
    λ f cut. absurd (none (ap length cut.cut))

pub returns-then-not-is_id-clause-each : goal.returns-then-not-is_id-clause-each
returns-then-not-is_id-clause-each c =
    let is = rw c.in_ok-fields.ensures.ok_part at c.cut_fields.ensures.cut in
    λ f cut. absurd (search (rules, c.is_id.ensures.1 (subst IsId (ap (λ (w : List (List ℕ)). slice_index_or w 0 []) (sym cut.cut ∙ is)) cut.id_is)))
