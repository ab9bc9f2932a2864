use Rattle.std.proofs.Common.{◌≡◌, arith, length, ◌+◌, ◌++◌, ◌∷◌, [], refl, sym, ap, ◌∙◌, append_assoc, length-append}
use Rattle.std.proofs.lemmas.Bool.{eqb-true}
use Rattle.std.proofs.lemmas.List.{length-set, take_all, take_more_set}
use Rattle.pb_board.proofs.Breaks.{all_breaks}
use Rattle.pb_io.specs.Lines.{lines}
use Rattle.pb_poly.specs.Table.{IsRandomLine}
use Rattle.pb_poly.proofs.Tables.{all_before, all_spelled, zip_more}
use Rattle.pb_poly.proofs.table.randoms_of.Goals as goal
use Rattle.pb_poly.proofs.table.randoms_of.Goals.{then-count-lt-TABLE_LEN, else-count-lt-TABLE_LEN}

pub loop-rest-init : goal.loop-rest-init
loop-rest-init c = (refl, omega arith, [], refl, refl, [], tt, λ _. refl)

pub returns-in_default-clause-err : goal.returns-in_default-clause-err
returns-in_default-clause-err c =
    let (_, _, before, cut, count, spelled, zip, _) = c.loop-rest.invariant in
    all_breaks IsRandomLine (lines c.args.bytes.now) before c.first_line.result.0.now (lines c.first_line.result.1.now) (c.loop-rest.count + 1)
    (cut ∙ ap (λ ls. before ++ ls) c.first_line.ensures.cut) (omega (arith, count)) (all_spelled before spelled zip) c.in_default.ensures

pub loop-rest-preserved : goal.loop-rest-preserved
loop-rest-preserved c =
    let (room, few, before, cut, count, spelled, zip, kept) = c.loop-rest.invariant in
    let line = c.first_line.result.0.now in let randoms = c.loop-rest.randoms in let random = c.in-Some.random in (
      elim c.if-count-lt-TABLE_LEN.branch [
        | then-count-lt-TABLE_LEN w ↦ rw w.randoms-is (length-set randoms c.loop-rest.count random ∙ room)
        | else-count-lt-TABLE_LEN w ↦ rw w.randoms-is room
      ],
      omega (arith, few, c.first_line.ensures.less),
      before ++ line ∷ [],
      cut ∙ ap (λ ls. before ++ ls) c.first_line.ensures.cut ∙ sym (append_assoc before (line ∷ []) (lines c.first_line.result.1.now)),
      omega (arith, count, length-append before (line ∷ [])),
      spelled ++ random ∷ [],
      zip_more before spelled line random zip c.in-Some.ensures,
      λ most. elim c.if-count-lt-TABLE_LEN.branch [
        | then-count-lt-TABLE_LEN w ↦
            ap (λ xs. xs ++ random ∷ []) (kept (omega (arith, most)))
            ∙ sym (rw w.randoms-is (take_more_set randoms c.loop-rest.count random (omega (arith, most, room))))
        | else-count-lt-TABLE_LEN w ↦ absurd (omega (arith, most, w.if-count-lt-TABLE_LEN.false))
      ],
    )

pub returns-then-count-eq-TABLE_LEN-clause-ok : goal.returns-then-count-eq-TABLE_LEN-clause-ok
returns-then-count-eq-TABLE_LEN-clause-ok c =
    let (room, _, before, cut, _, spelled, zip, kept) = c.loop-rest.invariant in
    let lines_are = all_before c.args.bytes.now c.loop-rest.rest.now before cut (eqb-true (length c.loop-rest.rest.now) 0 (sym c.loop-rest-test.ensures)) in
    let randoms_are : spelled ≡ c.loop-rest.randoms =
    kept (omega (arith, c.if-count-eq-TABLE_LEN.true)) ∙ take_all c.loop-rest.count c.loop-rest.randoms (omega (arith, room, c.if-count-eq-TABLE_LEN.true)) in
    (room, rw (← lines_are, ← randoms_are) zip)

pub returns-else-count-eq-TABLE_LEN-clause-err : goal.returns-else-count-eq-TABLE_LEN-clause-err
returns-else-count-eq-TABLE_LEN-clause-err c =
    let (_, _, before, cut, count, spelled, zip, _) = c.loop-rest.invariant in
    let lines_are = all_before c.args.bytes.now c.loop-rest.rest.now before cut (eqb-true (length c.loop-rest.rest.now) 0 (sym c.loop-rest-test.ensures)) in
    (count ∙ ap length lines_are, c.if-count-eq-TABLE_LEN.false, rw (← lines_are) (all_spelled before spelled zip))
