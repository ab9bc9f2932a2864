use Rattle.std.proofs.Common.{◌≡◌, ◌+◌, ◌-◌, ◌*◌, ◌/◌, ◌^◌, ◌<◌, ltb, List, arith, ap, subst, sym, ◌∙◌, length, drop, take}
use Rattle.std.specs.Prelude.{take_while}
use Rattle.std.proofs.lemmas.List.{get_or_read, length-drop, take_all}
use Rattle.pb_poly.specs.declared.book.Entry.{Entry}
use Rattle.pb_export.specs.Indexing.{IsBefore, IsFirstUnder}
use Rattle.pb_export.proofs.Indexes.{partition_point, first_within}
use Rattle.pb_export.proofs.indexed_book.IndexedBook.first_under.Goals as goal

pub returns : goal.returns
returns c =
    let key = c.args.key in
    let book : List Entry = c.self.inside.book in
    let entries : List Entry = c.entries.result.now in
    let start = c.index.result.now in
    let front = key / 2 ^ 46 in
    let small : front < 2 ^ 18 = omega (arith, c.ranges.key.fits) in
    let before : IsBefore book start (front * 2 ^ 46) = subst (λ p. IsBefore book p (front * 2 ^ 46)) (sym (get_or_read c.self.inside.firsts.items front start (omega (arith, small, c.self.invariant.many)) c.index.ensures 0)) (c.self.invariant.each front small) in
    let value : entries ≡ book = c.entries.ensures.value in
    let rest : take (length entries - start) (drop start entries) ≡ drop start entries = take_all (length entries - start) (drop start entries) (omega (arith, length-drop start entries)) in
    let counted : c.count_below.result ≡ length (take_while (λ (e : Entry). ltb e.key key) (drop start book)) =
    c.count_below.ensures ∙ ap (λ (es : List Entry). length (take_while (λ (e : Entry). ltb e.key key) es)) (rest ∙ ap (drop start) value) in
    subst (λ (es : List Entry). IsFirstUnder es key (start + c.count_below.result)) c.self.view_is (record {
      within = first_within key (front * 2 ^ 46) book start c.count_below.result c.entries.ensures.ordered before (omega arith) counted;
      point = partition_point key (front * 2 ^ 46) book start c.count_below.result c.entries.ensures.ordered before (omega arith) counted;
    })
