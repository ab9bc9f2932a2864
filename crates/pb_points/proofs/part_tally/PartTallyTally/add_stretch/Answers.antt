use Rattle.std.proofs.Common.{◌≡◌, ◌<◌, ◌≤◌, Some, length, refl, sym, ap, ◌∙◌, inl, inr, arith}
use Rattle.std.specs.Prelude.{slice_get}
use Rattle.std.proofs.lemmas.Bool.{cases_lt}
use Rattle.std.proofs.lemmas.Option.{slice_get_read}
use Rattle.pb_points.specs.PartTally.{part_of}
use Rattle.pb_points.proofs.PartStretches.{no_parts, parted}
use Rattle.pb_points.proofs.Stretches.{adds_of_nothing, same_content}
use Rattle.pb_points.proofs.part_tally.PartTallyTally.add_stretch.Goals as goal

pub returns-in_default-clause-ok : goal.returns-in_default-clause-ok
returns-in_default-clause-ok g c =
    let parts = c.args.self.now.parts.items in
    let past : length parts ≤ part_of c.args.first = omega (arith, c.in_default.ensures.lookup.3, ap length c.deref.ensures.value, c.part_of.ensures) in
    let none : length parts ≡ 0 = elim (cases_lt 0 (length parts)) [
      | inl some ↦ absurd (omega (arith, past, c.ranges.first.fits, c.args.self.now.whole some))
      | inr le ↦ omega arith
    ] in
    adds_of_nothing _ c.args.least c.args.entries.now.items (λ k code. no_parts g.T.Tally.content parts c.args.first k code none)

pub returns-clause-ok : goal.returns-clause-ok
returns-clause-ok g c =
    let parts = c.args.self.now.parts.items in
    let lt : c.part_of.result < length parts = omega (arith, c.in-Some.ensures.lookup.3.0, ap length c.deref.ensures.value) in
    let many : length parts ≡ 256 = c.args.self.now.whole (omega (arith, lt)) in
    let here : slice_get parts (part_of c.args.first) ≡ Some c.in-Some.part.now =
    ap (slice_get parts) (sym c.part_of.ensures) ∙ ap (λ l. slice_get l c.part_of.result) (sym c.deref.ensures.value)
    ∙ slice_get_read c.deref.result.now (length c.deref.result.now) c.part_of.result c.in-Some.part.now refl c.in-Some.ensures.lookup.3.0 c.in-Some.ensures.lookup.1 in
    same_content _ _ c.args.least _ _ (parted g.T.Tally.content parts c.args.first c.in_ok-next.next c.within_part.result c.in-Some.part.now c.args.self.now.own many here c.within_part.ensures.keys) c.in_ok-next.ensures.ok
