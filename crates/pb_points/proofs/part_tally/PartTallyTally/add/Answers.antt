use Rattle.std.proofs.Common.{◌≡◌, ◌<◌, Some, refl, length, set, ap, ◌∙◌, subst, sym, arith}
use Rattle.std.specs.Prelude.{slice_get}
use Rattle.std.proofs.Math.ListN.{length-set}
use Rattle.std.proofs.lemmas.Option.{slice_get_read}
use Rattle.pb_points.specs.PartTally.{HoldsOwn, part_of, parts_content}
use Rattle.pb_points.specs.Tally.{AddsPly, more}
use Rattle.pb_points.proofs.PartRows.{own_changed, part_changed}
use Rattle.pb_points.proofs.part_tally.PartTallyTally.add.Goals as goal

pub invariant_of-self : goal.invariant_of-self
invariant_of-self g c =
    let parts = c.args.self.now.parts.items in
    let lt : c.part_of.result < length parts = c.in-Some.ensures.item.3.0 in
    let here : slice_get parts (part_of c.args.key) ≡ Some c.in-Some.part.now =
    ap (slice_get parts) (sym c.part_of.ensures) ∙ slice_get_read parts (length parts) c.part_of.result c.in-Some.part.now refl lt c.in-Some.ensures.value in
    record {
      whole = λ some. omega (arith, length-set parts c.part_of.result c.add.new.self, c.args.self.now.whole);
      own = subst (λ n. HoldsOwn g.T.Tally.content (set parts n c.add.new.self)) (sym c.part_of.ensures)
          (own_changed g.T.Tally.content (more c.args.points) parts c.args.key c.args.code c.in-Some.part.now c.add.new.self here c.add.ensures c.args.self.now.own);
    }

pub returns-in-Some : goal.returns-in-Some
returns-in-Some g c =
    let parts = c.args.self.now.parts.items in
    let lt : c.part_of.result < length parts = c.in-Some.ensures.item.3.0 in
    let here : slice_get parts (part_of c.args.key) ≡ Some c.in-Some.part.now =
    ap (slice_get parts) (sym c.part_of.ensures) ∙ slice_get_read parts (length parts) c.part_of.result c.in-Some.part.now refl lt c.in-Some.ensures.value in
    subst (λ n. AddsPly (parts_content g.T.Tally.content parts) (parts_content g.T.Tally.content (set parts n c.add.new.self)) c.args.key c.args.code c.args.points) (sym c.part_of.ensures)
    (part_changed g.T.Tally.content (more c.args.points) parts c.args.key c.args.code c.in-Some.part.now c.add.new.self here c.add.ensures)
