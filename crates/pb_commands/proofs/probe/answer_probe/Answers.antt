use Rattle.std.proofs.Common.{◌∙◌, Err}
use Rattle.std.proofs.lemmas.Result.{err_from_is_err_and}
use Rattle.pb_commands.specs.Judged.{AsRecord}
use Rattle.pb_commands.specs.declared.stop.Refused.TheVariants.{Fen}
use Rattle.pb_commands.proofs.Probing.{as_record, at_fault, at_memory, at_moves, at_record}
use Rattle.pb_commands.proofs.Probing.{none_probed}
use Rattle.pb_commands.proofs.Stopping.{accepted, refused}
use Rattle.pb_commands.proofs.probe.answer_probe.Goals as goal

pub returns-in_err-finder : goal.returns-in_err-finder
returns-in_err-finder g c =
    let t = g.TableIn.Source.state in let b = g.BookIn.Source.state in let k = g.Out.Sink.state in
    let p = err_from_is_err_and c.from_residual.result c.from_residual.ensures.1 in
    rw (p.1, p.2) (none_probed c.args.fills (t c.args.table_source.now) (t c.read.new.table) (b c.args.book_source.now) (b c.read.new.book) c.args.fen.now (k c.args.sink.now) (k c.read.new.sink) c.in_err-finder.field-0.0 c.in_err-finder.ensures)

pub returns-in_err-record : goal.returns-in_err-record
returns-in_err-record g c =
    let t = g.TableIn.Source.state in let b = g.BookIn.Source.state in let k = g.Out.Sink.state in
    let r = refused Fen (AsRecord c.args.fen.now) (k c.read.new.sink) (k c.accept.new.sink) c.read_fen.result c.map_err.result c.in_err-record.field-0.0 (as_record c.args.fen.now c.read_fen.result c.read_fen.ensures.found c.read_fen.ensures.refused) c.map_err.ensures.cases c.in_err-record.ensures in
    let p = err_from_is_err_and c.from_residual-in_err-record.result c.from_residual-in_err-record.ensures.1 in
    rw (p.1, p.2) (at_record c.args.fills (t c.args.table_source.now) (t c.read.new.table) (b c.args.book_source.now) (b c.read.new.book) c.args.fen.now (k c.args.sink.now) (k c.read.new.sink) c.in_ok-finder.finder c.in_ok-finder.ensures (k c.accept.new.sink) (Err c.in_err-record.field-0.0) r.0 r.1 r.2)

pub returns-in_err-found : goal.returns-in_err-found
returns-in_err-found g c =
    let t = g.TableIn.Source.state in let b = g.BookIn.Source.state in let k = g.Out.Sink.state in
    let both = c.in_ok-finder.ensures in let start = accepted Fen (AsRecord c.args.fen.now) (k c.read.new.sink) (k c.accept.new.sink) c.read_fen.result c.map_err.result c.in_ok-record.record (as_record c.args.fen.now c.read_fen.result c.read_fen.ensures.found c.read_fen.ensures.refused) c.map_err.ensures.cases c.in_ok-record.ensures in
    let p = err_from_is_err_and c.from_residual-in_err-found.result c.from_residual-in_err-found.ensures.1 in
    rw (p.1, p.2) (at_memory c.args.fills (t c.args.table_source.now) (t c.read.new.table) (b c.args.book_source.now) (b c.read.new.book) c.args.fen.now (k c.args.sink.now) (k c.accept.new.sink) c.in_ok-finder.finder (both.0, both.1, start.1 ∙ both.2) c.in_ok-record.record start.0)

pub returns-in_err-show_found : goal.returns-in_err-show_found
returns-in_err-show_found g c =
    let t = g.TableIn.Source.state in let b = g.BookIn.Source.state in let k = g.Out.Sink.state in
    let both = c.in_ok-finder.ensures in let start = accepted Fen (AsRecord c.args.fen.now) (k c.read.new.sink) (k c.accept.new.sink) c.read_fen.result c.map_err.result c.in_ok-record.record (as_record c.args.fen.now c.read_fen.result c.read_fen.ensures.found c.read_fen.ensures.refused) c.map_err.ensures.cases c.in_ok-record.ensures in
    let p = err_from_is_err_and c.from_residual-in_err-show_found.result c.from_residual-in_err-show_found.ensures.1 in
    rw (p.1, p.2) (at_fault c.args.fills (t c.args.table_source.now) (t c.read.new.table) (b c.args.book_source.now) (b c.read.new.book) c.args.fen.now (k c.args.sink.now) (k c.accept.new.sink) c.in_ok-finder.finder (both.0, both.1, start.1 ∙ both.2) c.in_ok-record.record start.0 c.setup.result c.setup.ensures.value c.in_ok-found.found.items c.in_ok-found.ensures c.as_slice.result.now c.as_slice.ensures.value (k c.show_found.new.sink) c.in_err-show_found.field-0.0 c.in_err-show_found.ensures)

pub returns : goal.returns
returns g c =
    let t = g.TableIn.Source.state in let b = g.BookIn.Source.state in let k = g.Out.Sink.state in
    let both = c.in_ok-finder.ensures in let start = accepted Fen (AsRecord c.args.fen.now) (k c.read.new.sink) (k c.accept.new.sink) c.read_fen.result c.map_err.result c.in_ok-record.record (as_record c.args.fen.now c.read_fen.result c.read_fen.ensures.found c.read_fen.ensures.refused) c.map_err.ensures.cases c.in_ok-record.ensures in
    at_moves c.args.fills (t c.args.table_source.now) (t c.read.new.table) (b c.args.book_source.now) (b c.read.new.book) c.args.fen.now (k c.args.sink.now) (k c.accept.new.sink) c.in_ok-finder.finder (both.0, both.1, start.1 ∙ both.2) c.in_ok-record.record start.0 c.setup.result c.setup.ensures.value c.in_ok-found.found.items c.in_ok-found.ensures c.as_slice.result.now c.as_slice.ensures.value (k c.show_found.new.sink) c.in_ok-show_found.field-0 c.in_ok-show_found.ensures
