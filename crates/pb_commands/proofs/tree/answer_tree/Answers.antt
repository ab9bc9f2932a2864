use Rattle.std.proofs.Common.{◌∙◌, Err, Ok, refl, subst, true}
use Rattle.std.proofs.lemmas.Result.{err_from_is_err_and}
use Rattle.pb_board.specs.Position.{Position}
use Rattle.pb_io.specs.Sink.{SinkState}
use Rattle.pb_commands.specs.Judged.{AsRecord}
use Rattle.pb_commands.specs.Tree.{PutsTree, Tree, GrowsTree}
use Rattle.pb_commands.specs.declared.stop.Refused.TheVariants.{Fen}
use Rattle.pb_commands.proofs.Probing.{as_record}
use Rattle.pb_commands.proofs.Stopping.{accepted, none_had, refused}
use Rattle.pb_commands.proofs.Trees.{tree_flushed, tree_is_one, tree_unput}
use Rattle.pb_commands.proofs.tree.answer_tree.Goals as goal

pub returns-in_err-finder : goal.returns-in_err-finder
returns-in_err-finder g c =
    let t = g.TableIn.Source.state in let b = g.BookIn.Source.state in let k = g.Out.Sink.state in
    let p = err_from_is_err_and c.from_residual.result c.from_residual.ensures.1 in
    rw (p.1, p.2) (none_had c.args.fills (t c.args.table_source.now) (t c.read.new.table) (b c.args.book_source.now) (b c.read.new.book) (k c.args.sink.now) (k c.read.new.sink) c.in_err-finder.field-0.0 c.in_err-finder.ensures _ _ (λ refusal r. r))

pub returns-in_err-record : goal.returns-in_err-record
returns-in_err-record g c =
    let t = g.TableIn.Source.state in let b = g.BookIn.Source.state in let k = g.Out.Sink.state in
    let both = c.in_ok-finder.ensures in
    let r = refused Fen (AsRecord c.args.fen.now) (k c.read.new.sink) (k c.accept.new.sink) c.read_fen.result c.map_err.result c.in_err-record.field-0.0 (as_record c.args.fen.now c.read_fen.result c.read_fen.ensures.found c.read_fen.ensures.refused) c.map_err.ensures.cases c.in_err-record.ensures in
    let p = err_from_is_err_and c.from_residual-in_err-record.result c.from_residual-in_err-record.ensures.1 in
    let P : SinkState → Type 0 = λ x. GrowsTree c.args.fills (t c.args.table_source.now) (t c.read.new.table) (b c.args.book_source.now) (b c.read.new.book) c.args.fen.now c.args.plies c.args.least x (k c.accept.new.sink) c.from_residual-in_err-record.result in
    subst P both.2 (rw (p.1, p.2) (Ok c.in_ok-finder.finder.table, (both.0, tt), (Ok c.in_ok-finder.finder.book, both.1, (Err r.0, r.1, r.2))))

pub returns-in_err-put_tree : goal.returns-in_err-put_tree
returns-in_err-put_tree g c =
    let t = g.TableIn.Source.state in let b = g.BookIn.Source.state in let k = g.Out.Sink.state in
    let both = c.in_ok-finder.ensures in let start = accepted Fen (AsRecord c.args.fen.now) (k c.read.new.sink) (k c.accept.new.sink) c.read_fen.result c.map_err.result c.in_ok-record.record (as_record c.args.fen.now c.read_fen.result c.read_fen.ensures.found c.read_fen.ensures.refused) c.map_err.ensures.cases c.in_ok-record.ensures in
    let p = err_from_is_err_and c.from_residual-in_err-put_tree.result c.from_residual-in_err-put_tree.ensures.1 in
    let tree = Tree c.in_ok-finder.finder.table c.in_ok-finder.finder.book c.args.least c.args.plies 0 c.in_ok-record.record.setup in
    let put = subst (λ (s : Position). PutsTree (Tree c.in_ok-finder.finder.table c.in_ok-finder.finder.book c.args.least c.args.plies 0 s) (k c.accept.new.sink) (k c.put_tree.new.sink) (Err c.in_err-put_tree.field-0.0)) c.setup.ensures.value c.in_err-put_tree.ensures in
    let shown = tree_unput tree (k c.accept.new.sink) (k c.put_tree.new.sink) c.in_err-put_tree.field-0.0 put in
    let P : SinkState → Type 0 = λ x. GrowsTree c.args.fills (t c.args.table_source.now) (t c.read.new.table) (b c.args.book_source.now) (b c.read.new.book) c.args.fen.now c.args.plies c.args.least x (k c.put_tree.new.sink) c.from_residual-in_err-put_tree.result in
    subst P (start.1 ∙ both.2) (rw (p.1, p.2) (Ok c.in_ok-finder.finder.table, (both.0, tt), (Ok c.in_ok-finder.finder.book, both.1, (Ok c.in_ok-record.record, start.0, (Err c.in_err-put_tree.field-0.0, shown, refl)))))

pub returns-in_err-map_err : goal.returns-in_err-map_err
returns-in_err-map_err g c =
    let t = g.TableIn.Source.state in let b = g.BookIn.Source.state in let k = g.Out.Sink.state in
    let both = c.in_ok-finder.ensures in let start = accepted Fen (AsRecord c.args.fen.now) (k c.read.new.sink) (k c.accept.new.sink) c.read_fen.result c.map_err.result c.in_ok-record.record (as_record c.args.fen.now c.read_fen.result c.read_fen.ensures.found c.read_fen.ensures.refused) c.map_err.ensures.cases c.in_ok-record.ensures in
    let p = err_from_is_err_and c.from_residual-in_err-map_err.result c.from_residual-in_err-map_err.ensures.1 in
    let tree = Tree c.in_ok-finder.finder.table c.in_ok-finder.finder.book c.args.least c.args.plies 0 c.in_ok-record.record.setup in
    let put = subst (λ (s : Position). PutsTree (Tree c.in_ok-finder.finder.table c.in_ok-finder.finder.book c.args.least c.args.plies 0 s) (k c.accept.new.sink) (k c.put_tree.new.sink) (Ok c.in_ok-put_tree.field-0)) c.setup.ensures.value c.in_ok-put_tree.ensures in
    let one = tree_is_one c.in_ok-finder.finder.table c.in_ok-finder.finder.book c.args.least c.args.plies 0 c.in_ok-record.record.setup start.0.0.setup in
    let shown = tree_flushed tree (k c.accept.new.sink) (k c.put_tree.new.sink) (k c.flush.new.self) c.in_ok-put_tree.field-0 one put c.flush.result c.flush.ensures (Err c.in_err-map_err.field-0.0) c.in_err-map_err.ensures.cases in
    let P : SinkState → Type 0 = λ x. GrowsTree c.args.fills (t c.args.table_source.now) (t c.read.new.table) (b c.args.book_source.now) (b c.read.new.book) c.args.fen.now c.args.plies c.args.least x (k c.flush.new.self) c.from_residual-in_err-map_err.result in
    subst P (start.1 ∙ both.2) (rw (p.1, p.2) (Ok c.in_ok-finder.finder.table, (both.0, tt), (Ok c.in_ok-finder.finder.book, both.1, (Ok c.in_ok-record.record, start.0, (Err c.in_err-map_err.field-0.0, shown, refl)))))

pub returns : goal.returns
returns g c =
    let t = g.TableIn.Source.state in let b = g.BookIn.Source.state in let k = g.Out.Sink.state in
    let both = c.in_ok-finder.ensures in let start = accepted Fen (AsRecord c.args.fen.now) (k c.read.new.sink) (k c.accept.new.sink) c.read_fen.result c.map_err.result c.in_ok-record.record (as_record c.args.fen.now c.read_fen.result c.read_fen.ensures.found c.read_fen.ensures.refused) c.map_err.ensures.cases c.in_ok-record.ensures in
    let tree = Tree c.in_ok-finder.finder.table c.in_ok-finder.finder.book c.args.least c.args.plies 0 c.in_ok-record.record.setup in
    let put = subst (λ (s : Position). PutsTree (Tree c.in_ok-finder.finder.table c.in_ok-finder.finder.book c.args.least c.args.plies 0 s) (k c.accept.new.sink) (k c.put_tree.new.sink) (Ok c.in_ok-put_tree.field-0)) c.setup.ensures.value c.in_ok-put_tree.ensures in
    let one = tree_is_one c.in_ok-finder.finder.table c.in_ok-finder.finder.book c.args.least c.args.plies 0 c.in_ok-record.record.setup start.0.0.setup in
    let shown = tree_flushed tree (k c.accept.new.sink) (k c.put_tree.new.sink) (k c.flush.new.self) c.in_ok-put_tree.field-0 one put c.flush.result c.flush.ensures (Ok c.in_ok-map_err.field-0) c.in_ok-map_err.ensures.cases in
    let P : SinkState → Type 0 = λ x. GrowsTree c.args.fills (t c.args.table_source.now) (t c.read.new.table) (b c.args.book_source.now) (b c.read.new.book) c.args.fen.now c.args.plies c.args.least x (k c.flush.new.self) (Ok true) in
    subst P (start.1 ∙ both.2) (Ok c.in_ok-finder.finder.table, (both.0, tt), (Ok c.in_ok-finder.finder.book, both.1, (Ok c.in_ok-record.record, start.0, (Ok c.in_ok-map_err.field-0, shown, refl))))
