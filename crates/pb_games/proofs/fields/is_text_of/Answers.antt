use Rattle.std.proofs.Common.{◌≡◌, ◌↔◌, IsTrue, true≢false, sym, ap, subst, ◌∙◌, arith}
use Rattle.std.proofs.lemmas.Bool.Decides.{Decides-at, nat_tests}
use Rattle.pb_board.specs.Position.{IsSetup, Record}
use Rattle.pb_board.specs.Text.{fen_text}
use Rattle.pb_board.proofs.Equal.{positions}
use Rattle.pb_board.proofs.Fens.{record_never_due}
use Rattle.pb_board.proofs.Unique.{one_record}
use Rattle.pb_games.proofs.fields.is_text_of.Goals as goal
use Rattle.pb_games.proofs.fields.is_text_of.Goals.{then-half, else-half}

pub returns-then-full : goal.returns-then-full
returns-then-full c =
    let equal : IsTrue c.eq.result ↔ (c.setup.result ≡ c.setup-setup.result) = Decides-at c.eq.result _ c.eq.ensures (positions c.setup.result c.setup-setup.result (subst IsSetup (sym c.setup.ensures.value) c.setup.ensures.rules.setup) (subst IsSetup (sym c.setup-setup.ensures.value) c.setup-setup.ensures.rules.setup)) in
    let value : c.setup.result ≡ c.in-Ok.start.setup = c.setup.ensures.value in (
      λ t.
          let setups : c.in-Ok.start.setup ≡ c.args.fen.now.setup = sym value ∙ equal.0 t ∙ c.setup-setup.ensures.value in
          let halves : c.in-Ok.start.half ≡ c.args.fen.now.half = elim c.if-half.branch [ then-half w ↦ grind (arith, nat_tests, w.if-half) | else-half w ↦ absurd (grind (arith, nat_tests, w.if-half, w.value-is, c.if-full.true)) ] in
          let fulls : c.in-Ok.start.full ≡ c.args.fen.now.full = elim c.if-half.branch [ then-half w ↦ grind (arith, nat_tests, w.value-is, c.if-full.true) | else-half w ↦ absurd (grind (arith, nat_tests, w.if-half, w.value-is, c.if-full.true)) ] in
          let same : c.in-Ok.start ≡ c.args.fen.now = λ i. record { setup = setups i; half = halves i; full = fulls i } in
          c.in-Ok.ensures.found.1 ∙ ap fen_text same,
      λ spelt. equal.1 (value ∙ ap (λ (f : Record). f.setup) (one_record _ _ c.args.text.now c.in-Ok.ensures.found.0 c.setup-setup.ensures.rules c.in-Ok.ensures.found.1 spelt) ∙ sym c.setup-setup.ensures.value),
    )

pub returns-else-full : goal.returns-else-full
returns-else-full c = (
  (λ t. absurd (true≢false (sym t ∙ c.if-full.false))),
  λ spelt.
      let same : c.in-Ok.start ≡ c.args.fen.now = one_record _ _ c.args.text.now c.in-Ok.ensures.found.0 c.setup-setup.ensures.rules c.in-Ok.ensures.found.1 spelt in
      let half : c.in-Ok.start.half ≡ c.args.fen.now.half = ap (λ (f : Record). f.half) same in
      let full : c.in-Ok.start.full ≡ c.args.fen.now.full = ap (λ (f : Record). f.full) same in
      elim c.if-half.branch [ then-half w ↦ grind (arith, nat_tests, w.value-is, full) | else-half w ↦ absurd (grind (arith, nat_tests, w.if-half, half)) ],
)

pub returns-in-Err : goal.returns-in-Err
returns-in-Err c = ((λ t. absurd (true≢false (sym t))), λ spelt. absurd (record_never_due _ c.args.text.now _ c.setup-setup.ensures.rules spelt c.in-Err.ensures.refused))
