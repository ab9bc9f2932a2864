use Rattle.std.proofs.Common.{arith, get_or, refl, take, ◌≡◌, ℕ, List, sym, ap, subst, ◌∙◌}
use Rattle.std.specs.Io.KnownBytes.{Appends}
use Rattle.std.proofs.KnownBytes.{Appends-trans}
use Rattle.std.proofs.lemmas.List.{take_all, take_more}
use Rattle.std.proofs.lemmas.Result.{err_from_is_err_and}
use Rattle.pb_io.proofs.PutLemmas.{Lasts-trans}
use Rattle.pb_io.proofs.WritesLemmas.{Writes-flushed}
use Rattle.pb_poly.specs.declared.book.Entry.{Entry}
use Rattle.pb_poly.specs.Book.{book_bytes}
use Rattle.pb_poly.proofs.Entries.{book_bytes-push, front_of_book}
use Rattle.pb_poly.proofs.book.write_book.Goals as goal

pub returns-in_err-write_entry : goal.returns-in_err-write_entry
returns-in_err-write_entry g c =
    let state = g.K.Sink.state in
    let p = err_from_is_err_and c.from_residual.result c.from_residual.ensures.1 in
    let put = c.in_err-write_entry.ensures in
    let entries : List Entry = c.entries-entry-items.result.now in
    let none : Entry = record { key = 0; code = 0; weight = 0; learn = 0 } in
    let f = front_of_book entries c.loop-entry.entry-index none put.front.0 c.loop-entry-test.true in
    let is : take f.0 (book_bytes c.args.book.now) ≡ _ = ap (λ (es : List Entry). take f.0 (book_bytes es)) (sym c.entries-entry-items.ensures.value) ∙ f.1 in
    rw p.1 (record {
      all = tt;
      front = (f.0, subst (λ (bytes : List ℕ). Appends (state c.args.sink.now).bytes (state c.write_entry.new.sink).bytes bytes) (sym is) (Appends-trans _ _ _ _ _ c.loop-entry.invariant.put put.front.1));
      failed = put.failed;
      stays_failed = λ _. refl;
      lasts = Lasts-trans _ _ _ c.loop-entry.invariant.lasts put.lasts;
      all_lasts = tt;
      flushed = put.flushed;
      flushes = put.flushes ∙ c.loop-entry.invariant.flushes;
    })

pub loop-entry-preserved : goal.loop-entry-preserved
loop-entry-preserved g c =
    let state = g.K.Sink.state in
    let so_far = c.loop-entry.invariant in
    let put = c.in_ok-write_entry.ensures in
    let entries : List Entry = c.entries-entry-items.result.now in
    let i = c.loop-entry.entry-index in
    let none : Entry = record { key = 0; code = 0; weight = 0; learn = 0 } in
    let more = ap book_bytes (take_more entries i none c.loop-entry-test.true) ∙ book_bytes-push (take i entries) (get_or entries i none) in record {
      put = subst (Appends (state c.args.sink.now).bytes (state c.write_entry.new.sink).bytes) (sym more) (Appends-trans _ _ _ _ _ so_far.put put.all);
      works = λ before. let bad = put.stays_failed (so_far.works before) in cc;
      lasts = Lasts-trans _ _ _ so_far.lasts put.lasts;
      flushes = put.flushes ∙ so_far.flushes;
    }

pub returns : goal.returns
returns g c =
    let state = g.K.Sink.state in
    let entries : List Entry = c.entries-entry-items.result.now in
    let all : take c.loop-entry.entry-index entries ≡ c.args.book.now = take_all c.loop-entry.entry-index entries (omega arith) ∙ c.entries-entry-items.ensures.value in
    let put = subst (λ (es : List Entry). Appends (state c.args.sink.now).bytes (state c.loop-entry.sink).bytes (book_bytes es)) all c.loop-entry.invariant.put in
    Writes-flushed (state c.args.sink.now) (state c.loop-entry.sink) (state c.flush.new.self) c.flush.result (book_bytes c.args.book.now) put c.loop-entry.invariant.works c.loop-entry.invariant.lasts c.loop-entry.invariant.flushes c.flush.ensures
