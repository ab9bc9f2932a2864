use Rattle.std.proofs.Common.{ℕ, List, subst}
use Rattle.pb_io.specs.Sink.{Put}
use Rattle.pb_poly.proofs.book.write_entry.Goals as goal

pub returns : goal.returns
returns g c =
    let state = g.K.Sink.state in
    subst (λ (bytes : List ℕ). Put (state c.args.sink.now) (state c.put.new.self) c.put.result bytes) c.to_bytes.ensures c.put.ensures
