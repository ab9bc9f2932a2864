use Rattle.std.proofs.Common.{◌≡◌, ◌+◌, ◌-◌, ◌≤◌, ◌<◌, ◌++◌, ℕ, List, arith, inl, length, length-append, length-take, rules, subst, sym, take}
use Rattle.pb_io.specs.Source.{ReadsOn}
use Rattle.pb_io.proofs.ReadsLemmas.{ReadsOn-more, ReadsSome-more}
use Rattle.pb_poly.specs.Streams.{just_so_far}
use Rattle.pb_poly.specs.Table.{table_limit}
use Rattle.pb_poly.proofs.Feeds.{take-filled}
use Rattle.pb_poly.proofs.table.fill_whole.Goals as goal

pub returns-in-Ok-clause-err : goal.returns-in-Ok-clause-err
returns-in-Ok-clause-err g c =
    let state = g.S.Source.state in
    let now = c.loop-made.invariant in
    let slice = c.fill.new.into in
    let one : length slice ≡ 1 = search rules in
    let within : c.in-Ok.field-0 ≤ length slice = c.in-Ok.ensures.within in
    let some : 0 < c.in-Ok.field-0 = omega (arith, c.in-Ok.field-0-test.1) in
    let held = take c.loop-made.len c.loop-made.room in inl (
      just_so_far,
      held ++ take c.in-Ok.field-0 slice,
      ReadsSome-more table_limit c.loop-made._made (state c.args.source.now) (state c.loop-made.source) (state c.fill.new.self) held slice (omega (arith, one)) (omega (arith, one)) now.reads c.args.fills c.in-Ok.field-0
          c.loop-made-test.true c.in-Ok.ensures,
      omega (arith, length-append held (take c.in-Ok.field-0 slice), length-take c.in-Ok.field-0 slice, length-take c.loop-made.len c.loop-made.room, now.room, c.if-len-eq-TABLE_LIMIT.true),
    )

pub loop-made-preserved : goal.loop-made-preserved
loop-made-preserved g c =
    let state = g.S.Source.state in
    let now = c.loop-made.invariant in
    let slice = c.fill-in-loop-made.new.into in
    let len = c.loop-made.len in
    let count = c.in-Ok-fill.count in
    let held = take len c.loop-made.room in
    let long : length slice ≡ length c.loop-made.room - len = search rules in
    let within : count ≤ length slice = c.in-Ok-fill.ensures.within in
    let some : 0 < count = omega (arith, c.in-Ok-fill.count-test.1) in
    let all : length held ≡ len = omega (arith, length-take len c.loop-made.room, now.room, now.few) in
    let reads = ReadsOn-more table_limit c.loop-made._made (state c.args.source.now) (state c.loop-made.source) (state c.fill-in-loop-made.new.self) held slice (omega (arith, long, now.room, now.few, c.if-len-eq-TABLE_LIMIT.false))
    (omega (arith, long, now.room)) now.reads count some c.in-Ok-fill.ensures in
    let few : len + count ≤ table_limit = omega (arith, within, long, now.room, now.few) in
    let inside : len ≤ length c.loop-made.room = omega (arith, now.room, now.few) in
    let front = take-filled len count _ c.loop-made.room slice inside within in
    record {
      reads = subst (λ (bytes : List ℕ). ReadsOn table_limit (c.loop-made._made + 1) (state c.args.source.now) (state c.fill-in-loop-made.new.self) bytes) (sym front) reads;
      few = few;
      room = search rules;
    }
