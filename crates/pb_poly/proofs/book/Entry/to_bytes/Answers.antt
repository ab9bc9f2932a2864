use Rattle.std.proofs.Common.{rules}
use Rattle.pb_poly.proofs.book.Entry.to_bytes.Goals as goal

pub returns : goal.returns
returns c = search rules
