use Rattle.std.proofs.Common.{◌≡◌, ◌∙◌, ◌-◌, ◌+◌, ◌≤◌, ◌<◌, ◌++◌, ℕ, List, Ok, ap, append-nil, append_assoc, arith, drop, inl, length, refl, rules, subst, sym, take}
use Rattle.std.specs.List.{copy_within}
use borrow.Rule.Slice.PartMut.{put_mid}
use Rattle.std.proofs.lemmas.List.{length-drop, length-take}
use Rattle.std.proofs.lemmas.Result.{err_from_is_err_and}
use Rattle.pb_io.proofs.ReadsLemmas.{ReadsAll-more, ReadsOn-more, ReadsToFault-more}
use Rattle.pb_io.specs.Source.{ReadsOn, chunk_len}
use Rattle.pb_io.specs.Source.{Fill}
use Rattle.pb_io.specs.declared.source.Failed.{Failed}
use Rattle.pb_poly.specs.Book.{book_bytes}
use Rattle.pb_poly.specs.Reading.{Splits}
use Rattle.pb_poly.specs.Streams.{at_end, at_fault, at_no_end}
use Rattle.pb_poly.specs.declared.book.Entry.{Entry}
use Rattle.pb_poly.proofs.Feeds.{finds_no_book, take-filled, take-moved}
use Rattle.pb_poly.proofs.reading.drain.Goals as goal

pub returns-in_default : goal.returns-in_default
returns-in_default g c =
    let now = c.loop-made.invariant in
    let state = g.S.Source.state in
    let slice = c.fill.new.into in
    let long : length slice ≡ length c.loop-made.chunk - c.loop-made.len = search rules in
    let reads = ReadsToFault-more chunk_len c.loop-made._made (state c.args.source.now) (state c.loop-made.source) (state c.fill.new.self) _ slice (omega (arith, long, now.room, now.few)) (omega (arith, long, now.room)) now.reads c.args.fills
    c.in_default.field-0 c.loop-made-test.true c.in_default.ensures in inl (at_fault, _, reads, (c.loop-made.entries.items, take c.loop-made.len c.loop-made.chunk, now.splits))

pub returns-then-len-eq0 : goal.returns-then-len-eq0
returns-then-len-eq0 g c =
    let now = c.loop-made.invariant in
    let state = g.S.Source.state in
    let slice = c.fill.new.into in
    let long : length slice ≡ length c.loop-made.chunk - c.loop-made.len = search rules in
    let F : ℕ → Type 0 = λ n. Fill {E = Failed} (state c.loop-made.source) (state c.fill.new.self) (Ok n) slice in
    let reads = ReadsAll-more chunk_len c.loop-made._made (state c.args.source.now) (state c.loop-made.source) (state c.fill.new.self) _ slice (omega (arith, long, now.room, now.few)) (omega (arith, long, now.room)) now.reads c.args.fills
    c.loop-made-test.true (subst F c.if-count-eq0.true c.in-Ok.ensures) in
    let are = ap (λ n. book_bytes c.loop-made.entries.items ++ take n c.loop-made.chunk) c.if-len-eq0.true ∙ append-nil (book_bytes c.loop-made.entries.items) in
    inl (at_end, _, reads, record { are = record { bounds = now.splits.bounds; are = are }; ordered = now.splits.ordered })

pub returns-else-len-eq0 : goal.returns-else-len-eq0
returns-else-len-eq0 g c =
    let now = c.loop-made.invariant in
    let state = g.S.Source.state in
    let slice = c.fill.new.into in
    let long : length slice ≡ length c.loop-made.chunk - c.loop-made.len = search rules in
    let F : ℕ → Type 0 = λ n. Fill {E = Failed} (state c.loop-made.source) (state c.fill.new.self) (Ok n) slice in
    let reads = ReadsAll-more chunk_len c.loop-made._made (state c.args.source.now) (state c.loop-made.source) (state c.fill.new.self) _ slice (omega (arith, long, now.room, now.few)) (omega (arith, long, now.room)) now.reads c.args.fills
    c.loop-made-test.true (subst F c.if-count-eq0.true c.in-Ok.ensures) in
    let part = take c.loop-made.len c.loop-made.chunk in
    inl (at_end, _, reads, (c.loop-made.entries.items, part, now.splits, omega (arith, c.if-len-eq0.false), omega (arith, length-take c.loop-made.len c.loop-made.chunk, now.few, now.room)))

-- what came stands behind what stood there, after the entries
came_is : (entries : List Entry) (len count k : ℕ) (chunk slice : List ℕ) → len ≤ length chunk → count ≤ length slice → book_bytes entries ++ take (len + count) (put_mid len k chunk slice) ≡ (book_bytes entries ++ take len chunk) ++ take count slice
came_is entries len count k chunk slice inside within = ap (λ xs. book_bytes entries ++ xs) (take-filled len count k chunk slice inside within) ∙ sym (append_assoc (book_bytes entries) (take len chunk) (take count slice))

pub returns-in_err-left : goal.returns-in_err-left
returns-in_err-left g c =
    let now = c.loop-made.invariant in
    let state = g.S.Source.state in
    let slice = c.fill.new.into in
    let long : length slice ≡ length c.loop-made.chunk - c.loop-made.len = search rules in
    let within : c.in-Ok.count ≤ length slice = c.in-Ok.ensures.within in
    let p = err_from_is_err_and c.from_residual.result c.from_residual.ensures.1 in rw (p.1, p.2) (
    finds_no_book c.loop-made._made c.args.fills (state c.args.source.now) (state c.loop-made.source) (state c.fill.new.self) _ slice c.in-Ok.count
    (omega (arith, long, now.room, now.few)) (omega (arith, long, now.room)) c.loop-made-test.true now.reads c.in-Ok.ensures c.in_err-left.field-0.0 _ _
    (came_is c.loop-made.entries.items c.loop-made.len c.in-Ok.count _ c.loop-made.chunk slice (omega (arith, now.few, now.room)) within) c.in_err-left.ensures.err)

-- what is left stands at the front, after the entries
moved : (old new : List Entry) (len count k left : ℕ) (chunk slice after : List ℕ) → len ≤ length chunk → count ≤ length slice → len + count ≤ length (put_mid len k chunk slice)
    → (left ≤ length (take (len + count) (put_mid len k chunk slice)))
    × Splits (book_bytes old ++ take (len + count) (put_mid len k chunk slice)) new (drop (length (take (len + count) (put_mid len k chunk slice)) - left) (take (len + count) (put_mid len k chunk slice)))
    → after ≡ copy_within (put_mid len k chunk slice) (len + count - left) (len + count) 0
    → ((book_bytes old ++ take len chunk) ++ take count slice ≡ book_bytes new ++ take left after) × Splits (book_bytes new ++ take left after) new (take left after) × (left < 16)
moved old new len count k left chunk slice after inside within whole (few, h) is =
    let all = put_mid len k chunk slice in
    let bytes = take (len + count) all in
    let size : length bytes ≡ len + count = omega (arith, length-take (len + count) all, whole) in
    let front = ap (take left) is ∙ take-moved (len + count) left all (omega (arith, few, size)) whole in (
      sym (came_is old len count k chunk slice inside within) ∙ h.bytes ∙ ap (λ xs. book_bytes new ++ xs) (sym front),
      record { bounds = h.bounds; bytes = refl; partial = omega (arith, ap length front, h.partial); ordered = h.ordered },
      omega (arith, h.partial, length-drop (length bytes - left) bytes, few),
    )

pub loop-made-preserved : goal.loop-made-preserved
loop-made-preserved g c =
    let now = c.loop-made.invariant in
    let state = g.S.Source.state in
    let slice = c.fill.new.into in
    let long : length slice ≡ length c.loop-made.chunk - c.loop-made.len = search rules in
    let within : c.in-Ok.count ≤ length slice = c.in-Ok.ensures.within in
    let some : 0 < c.in-Ok.count = omega (arith, c.if-count-eq0.false) in
    let room : length c.copy_within.new.self ≡ chunk_len = search rules in
    let m = moved c.loop-made.entries.items c.take_entries.new.entries.items c.loop-made.len c.in-Ok.count _ c.in_ok-left.left c.loop-made.chunk slice c.copy_within.new.self (omega (arith, now.few, now.room)) within
    (omega (arith, room, c.copy_within.ensures.len, within, long, now.few, now.room)) c.in_ok-left.ensures.ok c.copy_within.ensures.after in
    let reads = ReadsOn-more chunk_len c.loop-made._made (state c.args.source.now) (state c.loop-made.source) (state c.fill.new.self) _ slice (omega (arith, long, now.room, now.few)) (omega (arith, long, now.room)) now.reads c.in-Ok.count some c.in-Ok.ensures in
    record {
      reads = subst (λ (bytes : List ℕ). ReadsOn chunk_len (c.loop-made._made + 1) (state c.args.source.now) (state c.fill.new.self) bytes) m.0 reads;
      splits = m.1;
      few = m.2;
      room = room;
    }

pub returns : goal.returns
returns g c =
    let now = c.loop-made.invariant in
    let state = g.S.Source.state in
    let all : c.loop-made._made ≡ c.args.fills = omega (arith, c.loop-made-test.false, c.loop-made.auto._made-end) in
    let came = book_bytes c.loop-made.entries.items ++ take c.loop-made.len c.loop-made.chunk in
    inl (at_no_end, came, subst (λ (n : ℕ). ReadsOn chunk_len n (state c.args.source.now) (state c.loop-made.source) came) all now.reads, (c.loop-made.entries.items, take c.loop-made.len c.loop-made.chunk, now.splits))
