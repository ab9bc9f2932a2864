use Rattle.std.proofs.Common.{◌≡◌, ◌++◌, ◌∷◌, [], ◌∙◌, length, ap, sym, subst, append_assoc, arith}
use Rattle.std.proofs.Math.ListN.{length-append}
use Rattle.pb_points.specs.Bag.{bag_content}
use Rattle.pb_points.specs.Blocks.{rows_in, rows_of}
use Rattle.pb_points.specs.NarrowTally.{AreSound}
use Rattle.pb_points.specs.Tally.{MakesRow}
use Rattle.pb_points.proofs.BagRows.{new_row}
use Rattle.pb_points.proofs.NarrowSums.{sound_beside, makes_beside}
use Rattle.pb_points.proofs.narrow_tally.NarrowTally.push_empty.Goals as goal

pub invariant_of-self : goal.invariant_of-self
invariant_of-self c =
    let was = c.args.self.now in
    let full = rows_in was.rows.full.items in
    let last = was.rows.last.items in
    let row = new_row c.args.key c.args.code in
    let is : full ++ c.push_reserved.new.self.items ≡ rows_of was.rows ++ row ∷ [] =
    ap (λ l. full ++ l) (c.push_reserved.ensures.items ∙ ap (λ r. last ++ r ∷ []) c.empty.ensures) ∙ sym (append_assoc full last (row ∷ [])) in
    record {
      sound = subst (λ l. AreSound l was.wide.items) (sym is) (sound_beside (rows_of was.rows) was.wide.items c.args.key c.args.code was.sound);
      counted = omega (arith, was.counted, ap length is, length-append (rows_of was.rows) (row ∷ []), c.push_reserved.ensures.len);
      room = omega (arith, was.room, c.push_reserved.ensures.capacity);
    }

pub returns : goal.returns
returns c =
    let was = c.args.self.now in
    let full = rows_in was.rows.full.items in
    let last = was.rows.last.items in
    let row = new_row c.args.key c.args.code in
    let is : full ++ c.push_reserved.new.self.items ≡ rows_of was.rows ++ row ∷ [] =
    ap (λ l. full ++ l) (c.push_reserved.ensures.items ∙ ap (λ r. last ++ r ∷ []) c.empty.ensures) ∙ sym (append_assoc full last (row ∷ [])) in
    subst (λ l. MakesRow (bag_content (rows_of was.rows ++ was.wide.items)) (bag_content (l ++ was.wide.items)) c.args.key c.args.code) (sym is)
    (makes_beside (rows_of was.rows) was.wide.items c.args.key c.args.code)
