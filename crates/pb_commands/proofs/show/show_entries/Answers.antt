use Rattle.std.proofs.Common.{[], refl}
use Rattle.std.proofs.KnownBytes.{Appends-nil}
use Rattle.std.proofs.lemmas.Result.{err_from_is_err_and}
use Rattle.pb_poly.specs.declared.book.Entry.{Entry}
use Rattle.pb_commands.specs.BookShown.{entry_line}
use Rattle.pb_commands.proofs.PutsInTurn.{PutsLines-more, flush_fails, line_fails, lines_shown}
use Rattle.pb_commands.proofs.show.show_entries.Goals as goal

abbrev none : Entry
none = record { key = 0; code = 0; weight = 0; learn = 0 }

pub loop-entry-init : goal.loop-entry-init
loop-entry-init g c = record { done = []; put = Appends-nil _; cut = refl; flushes = refl }

pub returns-in_err-put_entry : goal.returns-in_err-put_entry
returns-in_err-put_entry g c =
    let p = err_from_is_err_and c.from_residual.result c.from_residual.ensures.1 in
    rw (p.1, p.2) (line_fails entry_line c.args.entries.now c.loop-entry.entry-index _ _ _ c.loop-entry.invariant none c.in_err-put_entry.field-0.0 c.loop-entry-test.true c.in_err-put_entry.ensures)

pub loop-entry-preserved : goal.loop-entry-preserved
loop-entry-preserved g c =
    let state = g.K.Sink.state in PutsLines-more entry_line c.args.entries.now c.loop-entry.entry-index (state c.args.sink.now) (state c.loop-entry.sink) (state c.put_entry.new.sink) c.loop-entry.invariant none _ c.loop-entry-test.true c.in_ok-put_entry.ensures

pub returns-in_err-flush : goal.returns-in_err-flush
returns-in_err-flush g c =
    let p = err_from_is_err_and c.from_residual-in_err-flush.result c.from_residual-in_err-flush.ensures.1 in
    rw (p.1, p.2) (flush_fails entry_line c.args.entries.now c.loop-entry.entry-index _ _ _ c.loop-entry.invariant c.in_err-flush.field-0.0 c.loop-entry-test.false c.in_err-flush.ensures)

pub returns : goal.returns
returns g c = lines_shown entry_line c.args.entries.now c.loop-entry.entry-index _ _ _ c.loop-entry.invariant c.loop-entry-test.false c.in_ok-flush.ensures
