use Rattle.std.proofs.Common.{◌++◌, ◌∙◌, List, ap, arith, get_or, length, sym, take}
use Rattle.std.proofs.lemmas.List.{take_more}
use Rattle.std.proofs.lemmas.Slice.{take-put_mid}
use Rattle.pb_poly.specs.Book.{book_bytes}
use Rattle.pb_poly.specs.declared.book.Entry.{Entry}
use Rattle.pb_poly.proofs.Entries.{book_bytes-push}
use Rattle.pb_poly.proofs.book.write_entries.Goals as goal

pub loop-entry-preserved : goal.loop-entry-preserved
loop-entry-preserved g c =
    let entries : List Entry = c.args.entries.now in
    let i = c.loop-entry.entry-index in
    let put = c.copy_from_slice.ensures.after ∙ c.to_bytes.ensures in
    let none : Entry = record { key = 0; code = 0; weight = 0; learn = 0 } in (
      take-put_mid c.loop-entry.len _ c.loop-entry.room c.copy_from_slice.new.self _ (omega (arith, ap length put)) (omega (arith, c.loop-entry.invariant.1, c.requires, c.loop-entry-test.true))
          ∙ (λ j. c.loop-entry.invariant.0 j ++ put j)
          ∙ sym (ap book_bytes (take_more entries i none c.loop-entry-test.true) ∙ book_bytes-push (take i entries) (get_or entries i none)),
      omega (arith, c.loop-entry.invariant.1),
    )
