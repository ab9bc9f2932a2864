use Rattle.std.specs.Str.Lines.{strip_carriage_return}
use Rattle.pb_board.specs.LineEnd.{with_end}
use Rattle.pb_io.proofs.WritesLemmas.{Writes-flushed}
use Rattle.pb_ledger.proofs.collecting.write_new.Goals as goal

pub returns-in_ok-put_line-in-Ok-clause-new : goal.returns-in_ok-put_line-in-Ok-clause-new
returns-in_ok-put_line-in-Ok-clause-new g c new =
    let state = g.J.Sink.state in
    let line = c.in_ok-put_line-in-Ok.ensures in
    Writes-flushed (state c.args.journal.now) (state c.put_line.new.sink) (state c.flush.new.self) c.flush.result (with_end (strip_carriage_return c.args.line.now)) line.all (λ before. let bad = line.stays_failed before in cc) line.lasts line.flushes c.flush.ensures
