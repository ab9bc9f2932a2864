use Rattle.std.proofs.Common.{◌≡◌, ◌++◌, ◌∙◌, length, ap, sym, subst, arith}
use Rattle.std.proofs.Math.ListN.{length-append}
use Rattle.pb_points.specs.Bag.{HoldsSame}
use Rattle.pb_points.specs.Blocks.{rows_in, rows_of}
use Rattle.pb_points.specs.NarrowTally.{AreNarrowed, AreSound}
use Rattle.pb_points.proofs.NarrowSums.{sound_narrowed}
use Rattle.pb_points.proofs.narrow_tally.NarrowTally.add_up.Goals as goal

pub invariant_of-self-clause-sound : goal.invariant_of-self-clause-sound
invariant_of-self-clause-sound c =
    let was = c.args.self.now in
    let sums = c.in_ok-sums.sums.items in
    let rows = rows_of c.in_ok-narrowed.narrowed.rows in
    let last = c.in_ok-narrowed.narrowed.rows.last in
    let wide = c.in_ok-narrowed.narrowed.wide.items in
    let narrowed : AreNarrowed sums rows wide = subst (λ l. AreNarrowed l rows wide) c.deref.ensures.value c.in_ok-narrowed.ensures in
    let added : HoldsSame (rows_of was.rows ++ was.wide.items) sums = c.in_ok-sums.ensures.same in
    let full : rows_in c.reserve.new.self.items ++ last.items ≡ rows = ap (λ l. rows_in l ++ last.items) c.in_ok-reserve.ensures.items in
    let kept : AreSound rows wide = sound_narrowed (rows_of was.rows) was.wide.items sums rows wide was.sound added narrowed in
    subst (λ l. AreSound l c.reserve_wide.new.wide.items) (sym full) (subst (AreSound rows) (sym c.reserve_wide.ensures.items) kept)

pub invariant_of-self-clause-counted : goal.invariant_of-self-clause-counted
invariant_of-self-clause-counted c =
    let last = c.in_ok-narrowed.narrowed.rows.last in
    let many : length (rows_of c.in_ok-narrowed.narrowed.rows) ≡ length c.in_ok-sums.sums.items = c.in_ok-narrowed.ensures.many ∙ ap length c.deref.ensures.value in
    let full = ap (λ l. length (rows_in l ++ last.items)) c.in_ok-reserve.ensures.items in
    omega (arith, many, full, length-append (rows_in c.reserve.new.self.items) last.items, last.ok, c.in_ok-sums.sums.ok)
