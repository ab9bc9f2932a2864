use Rattle.std.proofs.Common.{◌∙◌, Err, Ok, refl, subst}
use Rattle.std.proofs.lemmas.Result.{err_from_is_err_and}
use Rattle.pb_io.specs.Sink.{SinkState}
use Rattle.pb_poly.specs.Reading.{ReadsBook}
use Rattle.pb_poly.specs.TableReading.{ReadsTable}
use Rattle.pb_commands.specs.ProbeShown.{ReadsBoth}
use Rattle.pb_commands.specs.declared.stop.Refused.TheVariants.{Book, Table}
use Rattle.pb_commands.proofs.Stopping.{accepted, refused}
use Rattle.pb_commands.proofs.probe.Finder.read.Goals as goal

pub returns-in_err-table : goal.returns-in_err-table
returns-in_err-table g c =
    let t = g.TableIn.Source.state in let k = g.Out.Sink.state in
    let r = refused Table (ReadsTable c.args.fills (t c.args.table.now) (t c.take_table.new.source)) (k c.args.sink.now) (k c.accept.new.sink) c.take_table.result c.map_err.result c.in_err-table.field-0.0 c.take_table.ensures.reads c.map_err.ensures.cases c.in_err-table.ensures in
    let p = err_from_is_err_and c.from_residual.result c.from_residual.ensures.1 in
    rw (p.1, p.2) (Err r.0, (r.1, refl), r.2)

pub returns-in_err-book : goal.returns-in_err-book
returns-in_err-book g c =
    let t = g.TableIn.Source.state in let b = g.BookIn.Source.state in let k = g.Out.Sink.state in
    let words = accepted Table (ReadsTable c.args.fills (t c.args.table.now) (t c.take_table.new.source)) (k c.args.sink.now) (k c.accept.new.sink) c.take_table.result c.map_err.result c.in_ok-table.table c.take_table.ensures.reads c.map_err.ensures.cases c.in_ok-table.ensures in
    let r = refused Book (ReadsBook c.args.fills (b c.args.book.now) (b c.read_book.new.source)) (k c.accept.new.sink) (k c.accept-2.new.sink) c.read_book.result c.map_err-2.result c.in_err-book.field-0.0 c.read_book.ensures.reads c.map_err-2.ensures.cases c.in_err-book.ensures in
    let p = err_from_is_err_and c.from_residual-in_err-book.result c.from_residual-in_err-book.ensures.1 in
    let P : SinkState → Type 0 = λ x. ReadsBoth c.args.fills (t c.args.table.now) (t c.take_table.new.source) (b c.args.book.now) (b c.read_book.new.source) x (k c.accept-2.new.sink) c.from_residual-in_err-book.result in
    subst P words.1 (rw (p.1, p.2) (Ok c.in_ok-table.table, (words.0, tt), (Err r.0, r.1, r.2)))

pub returns : goal.returns
returns g c =
    let t = g.TableIn.Source.state in let b = g.BookIn.Source.state in let k = g.Out.Sink.state in
    let words = accepted Table (ReadsTable c.args.fills (t c.args.table.now) (t c.take_table.new.source)) (k c.args.sink.now) (k c.accept.new.sink) c.take_table.result c.map_err.result c.in_ok-table.table c.take_table.ensures.reads c.map_err.ensures.cases c.in_ok-table.ensures in
    let entries = accepted Book (ReadsBook c.args.fills (b c.args.book.now) (b c.read_book.new.source)) (k c.accept.new.sink) (k c.accept-2.new.sink) c.read_book.result c.map_err-2.result c.in_ok-book.book c.read_book.ensures.reads c.map_err-2.ensures.cases c.in_ok-book.ensures in
    (words.0, entries.0, entries.1 ∙ words.1)
