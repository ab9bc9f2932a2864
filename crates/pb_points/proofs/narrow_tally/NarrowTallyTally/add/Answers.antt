use Rattle.std.proofs.Common.{◌++◌, length, sym, ap, subst, arith}
use Rattle.pb_points.specs.Bag.{bag_content}
use Rattle.pb_points.specs.Blocks.{rows_of}
use Rattle.pb_points.specs.NarrowTally.{AreSound}
use Rattle.pb_points.specs.Tally.{AddsPly}
use Rattle.pb_points.proofs.NarrowSums.{adds_there, all_narrow, sound_added, narrow_counted, room_for, spills_narrow, there_length, wide_adds, wide_room, wide_spills}
use Rattle.pb_points.proofs.narrow_tally.NarrowTallyTally.add.Goals as goal

pub add_wide-requires-clause-room : goal.add_wide-requires-clause-room
add_wide-requires-clause-room c = λ none.
    let was = c.args.self.now in
    let rows = rows_of was.rows in
    let few = room_for rows was.wide.items c.args.key c.args.code none (narrow_counted rows was.wide.items c.args.key c.args.code c.requires.row none) was.sound.spills in
    omega (arith, few, was.counted, was.room, was.wide.ok, was.rows.last.ok)

pub add_wide-requires-clause-fits : goal.add_wide-requires-clause-fits
add_wide-requires-clause-fits c = wide_room (rows_of c.args.self.now.rows) c.args.self.now.wide.items c.args.key c.args.code c.args.points c.requires.fits

pub returns-else-not-add_ply : goal.returns-else-not-add_ply
returns-else-not-add_ply c =
    let was = c.args.self.now in
    let rows = rows_of was.rows in
    adds_there _ _ c.args.key c.args.code c.args.points (all_narrow rows (rows_of c.add_ply.new.blocks) was.wide.items c.args.key c.args.code c.args.points (c.add_ply.ensures.added c.if-not-add_ply.false))

pub invariant_of-self-else-not-add_ply : goal.invariant_of-self-else-not-add_ply
invariant_of-self-else-not-add_ply c =
    let was = c.args.self.now in
    let rows = rows_of was.rows in
    let new = rows_of c.add_ply.new.blocks in
    let wide = was.wide.items in
    let h = c.add_ply.ensures.added c.if-not-add_ply.false in
    record {
      sound = sound_added rows wide new wide c.args.key c.args.code c.args.points
          (adds_there (rows ++ wide) (new ++ wide) c.args.key c.args.code c.args.points (all_narrow rows new wide c.args.key c.args.code c.args.points h))
          c.requires.fits (spills_narrow rows new wide c.args.key c.args.code c.args.points h was.sound.spills) was.sound;
      counted = omega (arith, was.counted, c.add_ply.ensures.len, there_length rows new c.args.key c.args.code c.args.points h);
      room = omega (arith, was.room, c.add_ply.ensures.room);
    }

pub returns-then-not-add_ply : goal.returns-then-not-add_ply
returns-then-not-add_ply c =
    let was = c.args.self.now in
    let new = c.add_wide.new.wide.items in
    let same = c.add_ply.ensures.full c.if-not-add_ply.true in
    subst (λ l. AddsPly (bag_content (rows_of was.rows ++ was.wide.items)) (bag_content (l ++ new)) c.args.key c.args.code c.args.points) (sym same)
    (wide_adds (rows_of was.rows) was.wide.items new c.args.key c.args.code c.args.points c.add_wide.ensures.adds)

pub invariant_of-self : goal.invariant_of-self
invariant_of-self c =
    let was = c.args.self.now in
    let rows = rows_of was.rows in
    let wide = was.wide.items in
    let new = c.add_wide.new.wide.items in
    let same = c.add_ply.ensures.full c.if-not-add_ply.true in
    record {
      sound = subst (λ l. AreSound l new) (sym same)
          (sound_added rows wide rows new c.args.key c.args.code c.args.points
          (wide_adds rows wide new c.args.key c.args.code c.args.points c.add_wide.ensures.adds) c.requires.fits
          (wide_spills rows wide new c.args.key c.args.code c.args.points c.add_wide.ensures.adds c.requires.row was.sound.spills) was.sound);
      counted = omega (arith, was.counted, c.add_ply.ensures.len, ap length same);
      room = omega (arith, was.room, c.add_ply.ensures.room, c.add_wide.ensures.capacity);
    }
