use Rattle.std.proofs.Common.{◌≡◌, ◌+◌, ◌-◌, ◌*◌, ◌%◌, ◌^◌, ltb, length, drop, take, ap, ◌∙◌, arith}
use Rattle.std.specs.Prelude.{take_while}
use Rattle.std.proofs.lemmas.List.{length-drop, length_push, take_all}
use Rattle.pb_poly.specs.declared.book.Entry.{Entry}
use Rattle.pb_export.proofs.Indexes.{first_before, firsts_more, higher_floor}
use Rattle.pb_export.proofs.indexed_book.firsts_of.Goals as goal

pub loop-front-preserved : goal.loop-front-preserved
loop-front-preserved c =
    let entries = c.args.entries.now in
    let front = c.loop-front.front in
    let old = c.loop-front.firsts.items in
    let put = c.in_ok-push.ensures.items in
    let before = c.loop-front.start in
    let count = c.count_below-start.result in
    let start = before + count in
    let floor : (front * 70368744177664) % 18446744073709551616 ≡ front * 2 ^ 46 = omega (arith, c.loop-front-test.true) in
    let rest : take (length entries - before) (drop before entries) ≡ drop before entries = take_all (length entries - before) (drop before entries) (omega (arith, length-drop before entries)) in
    let counted : count ≡ length (take_while (λ (e : Entry). ltb e.key (front * 2 ^ 46)) (drop before entries)) = c.count_below-start.ensures ∙ (λ i. length (take_while (λ (e : Entry). ltb e.key (floor i)) (rest i))) in
    let here = first_before (front * 2 ^ 46) (front * 2 ^ 46) entries before count c.requires c.loop-front.invariant.here (omega arith) counted in
    record {
      many = ap length put ∙ length_push old c.capped.result ∙ ap (λ n. n + 1) c.loop-front.invariant.many;
      each = firsts_more entries old c.push.new.self.items front start c.capped.result c.loop-front.invariant.many c.loop-front.invariant.each here c.capped.ensures put;
      here = higher_floor entries start (front * 2 ^ 46) ((front + 1) * 2 ^ 46) here (omega arith);
    }

pub returns : goal.returns
returns c =
    let all : c.loop-front.front ≡ 2 ^ 18 = omega (arith, c.loop-front-test.false, c.loop-front.auto.front-end) in
    record { many = c.loop-front.invariant.many ∙ all; each = λ f lt. c.loop-front.invariant.each f (omega (arith, lt, all)) }
