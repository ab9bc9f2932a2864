use Rattle.std.proofs.Common.{◌≡◌, ℕ, ◌<◌, length, get_or}
use Rattle.pb_export.specs.Indexing.{IsFirstUnder}
use Rattle.pb_export.proofs.indexed_book.IndexedBook.firsts_under.Given as goal

abbrev pub invariant-loop-key : goal.invariant-loop-key
invariant-loop-key l = record {
  many : length l.firsts.items ≡ l.key-index;
  each : (i : ℕ) → i < l.key-index → IsFirstUnder l.self (get_or l.keys i 0) (get_or l.firsts.items i 0);
}
