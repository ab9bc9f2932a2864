use Rattle.pb_poly.proofs.Told.{only_book}
use Rattle.pb_poly.proofs.reading.read_book.Goals as goal

pub returns-clause-only : goal.returns-clause-only
returns-clause-only g c entries bytes tells are ordered =
    let state = g.S.Source.state in
    only_book c.args.fills (state c.args.source.now) (state c.drain.new.source) bytes tells entries (record { are = are; ordered = ordered }) c.drain.result c.drain.ensures
