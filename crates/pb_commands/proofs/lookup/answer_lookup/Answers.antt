use Rattle.std.proofs.Common.{◌≡◌, Err, Ok, refl, subst}
use Rattle.std.proofs.lemmas.Result.{err_from_is_err_and}
use Rattle.pb_io.specs.Sink.{SinkState}
use Rattle.pb_commands.specs.Judged.{Verdict, StopsOrEnds}
use Rattle.pb_commands.specs.LookupShown.{LooksUp}
use Rattle.pb_commands.proofs.Stopping.{none_had}
use Rattle.pb_commands.proofs.lookup.answer_lookup.Goals as goal

pub returns-in_err-finder : goal.returns-in_err-finder
returns-in_err-finder g c =
    let t = g.TableIn.Source.state in let b = g.BookIn.Source.state in let k = g.Out.Sink.state in
    let p = err_from_is_err_and c.from_residual.result c.from_residual.ensures.1 in
    let stop = c.in_err-finder.field-0.0 in let s = g.In.Source.state c.args.source.now in
    let ends : Verdict → Type 0 = λ refusal. (s ≡ s) × StopsOrEnds (λ verdict. verdict ≡ refusal) (k c.args.sink.now) (k c.read.new.sink) (Err stop) in
    rw (p.1, p.2) (none_had c.args.fills (t c.args.table_source.now) (t c.read.new.table) (b c.args.book_source.now) (b c.read.new.book) (k c.args.sink.now) (k c.read.new.sink) stop c.in_err-finder.ensures _ ends (λ refusal r. (refl, r)))

pub returns-in_err-answer_lines : goal.returns-in_err-answer_lines
returns-in_err-answer_lines g c =
    let t = g.TableIn.Source.state in let b = g.BookIn.Source.state in let k = g.Out.Sink.state in
    let both = c.in_ok-finder.ensures in
    let p = err_from_is_err_and c.from_residual-in_err-answer_lines.result c.from_residual-in_err-answer_lines.ensures.1 in
    let P : SinkState → Type 0 = λ x. LooksUp c.args.fills (t c.args.table_source.now) (t c.read.new.table) (b c.args.book_source.now) (b c.read.new.book) (g.In.Source.state c.args.source.now) (g.In.Source.state c.answer_lines.new.source) x (k c.answer_lines.new.sink) c.from_residual-in_err-answer_lines.result in
    subst P both.2 (rw (p.1, p.2) (Ok c.in_ok-finder.finder.table, (both.0, tt), (Ok c.in_ok-finder.finder.book, both.1, (Err c.in_err-answer_lines.field-0.0, c.in_err-answer_lines.ensures, refl))))

pub returns : goal.returns
returns g c =
    let t = g.TableIn.Source.state in let b = g.BookIn.Source.state in let k = g.Out.Sink.state in
    let both = c.in_ok-finder.ensures in
    let P : SinkState → Type 0 = λ x. LooksUp c.args.fills (t c.args.table_source.now) (t c.read.new.table) (b c.args.book_source.now) (b c.read.new.book) (g.In.Source.state c.args.source.now) (g.In.Source.state c.answer_lines.new.source) x (k c.answer_lines.new.sink) (Ok c.in_ok-answer_lines.field-0) in
    subst P both.2 (Ok c.in_ok-finder.finder.table, (both.0, tt), (Ok c.in_ok-finder.finder.book, both.1, (Ok c.in_ok-answer_lines.field-0, c.in_ok-answer_lines.ensures, refl)))
