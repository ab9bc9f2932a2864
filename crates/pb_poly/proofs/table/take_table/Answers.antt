use Rattle.pb_poly.proofs.Told.{only_table}
use Rattle.pb_poly.proofs.table.take_table.Goals as goal

pub returns-clause-only : goal.returns-clause-only
returns-clause-only g c randoms bytes tells is =
    let state = g.S.Source.state in
    only_table c.args.fills (state c.args.source.now) (state c.read_file.new.source) bytes tells randoms is c.read_file.result c.read_file.ensures
