use Rattle.std.proofs.Common.{refl}
use Rattle.pb_poly.specs.Book.{book_bytes}
use Rattle.pb_accepted.proofs.SomeBooks.{some_book_of_ledger}
use Rattle.pb_commands.proofs.store.LedgerBook.of.Goals as goal

pub returns-clause-text : goal.returns-clause-text
returns-clause-text g c =
    let book = some_book_of_ledger c.args.ledger.now c.len-held.ensures.rules in
    (book_bytes book.0, _, (book.0, book.1, record { bounds = book.2; are = refl }, refl))
