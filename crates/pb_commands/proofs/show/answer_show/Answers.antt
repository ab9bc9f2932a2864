use Rattle.std.proofs.Common.{Err, subst}
use Rattle.std.proofs.lemmas.Result.{err_from_is_err_and}
use Rattle.pb_io.specs.Sink.{SinkState}
use Rattle.pb_poly.specs.Reading.{ReadsBook}
use Rattle.pb_commands.specs.BookShown.{BookShown}
use Rattle.pb_commands.specs.Judged.{StopsOrEnds}
use Rattle.pb_commands.specs.declared.stop.Refused.TheVariants.{Book}
use Rattle.pb_commands.proofs.Showing.{at_fault, at_refusal}
use Rattle.pb_commands.proofs.Stopping.{accepted, refused}
use Rattle.pb_commands.proofs.show.answer_show.Goals as goal

pub returns-in_err-book : goal.returns-in_err-book
returns-in_err-book g c =
    let s = g.S.Source.state in
    let k = g.K.Sink.state in
    let p = err_from_is_err_and c.from_residual.result c.from_residual.ensures.1 in
    let r = refused Book (ReadsBook c.args.fills (s c.args.source.now) (s c.read_book.new.source)) (k c.args.sink.now) (k c.accept.new.sink) c.read_book.result c.map_err.result c.in_err-book.field-0.0
    c.read_book.ensures.reads c.map_err.ensures.cases c.in_err-book.ensures in
    rw (p.1, p.2) (at_refusal c.args.fills (s c.args.source.now) (s c.read_book.new.source) (k c.args.sink.now) (k c.accept.new.sink) (Err c.in_err-book.field-0.0) r.0 r.1 r.2)

pub returns-in_err-show_entries : goal.returns-in_err-show_entries
returns-in_err-show_entries g c =
    let s = g.S.Source.state in
    let k = g.K.Sink.state in
    let p = err_from_is_err_and c.from_residual-in_err-show_entries.result c.from_residual-in_err-show_entries.ensures.1 in
    let a = accepted Book (ReadsBook c.args.fills (s c.args.source.now) (s c.read_book.new.source)) (k c.args.sink.now) (k c.accept.new.sink) c.read_book.result c.map_err.result c.in_ok-book.book
    c.read_book.ensures.reads c.map_err.ensures.cases c.in_ok-book.ensures in
    let P : SinkState → Type 0 = λ x. StopsOrEnds (BookShown (ReadsBook c.args.fills (s c.args.source.now) (s c.read_book.new.source))) x (k c.show_entries.new.sink) c.from_residual-in_err-show_entries.result in
    subst P a.1 (rw (p.1, p.2) (at_fault _ _ _ _ _ c.in_ok-book.book c.entries.result.now a.0 c.entries.ensures.value c.in_err-show_entries.field-0.0 c.in_err-show_entries.ensures))
