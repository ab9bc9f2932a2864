use Rattle.std.proofs.Common.{Ok, ap}
use Rattle.pb_io.specs.Source.{SourceState}
use Rattle.pb_poly.proofs.Told.{book_told}
use Rattle.library_uses.proofs.books.look_up.Goals as goal

pub returns-in-Ok-clause-found : goal.returns-in-Ok-clause-found
returns-in-Ok-clause-found c =
    let book = c.in_ok-book.book in
    let told = ap (λ (s : SourceState). s.to_come) c.new-source.ensures.state in
    (book, (book_told _ _ _ _ told (Ok book) c.in_ok-book.ensures.reads).are, c.in-Ok.ensures)
