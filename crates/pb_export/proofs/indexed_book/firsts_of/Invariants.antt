use Rattle.std.proofs.Common.{◌≡◌, ℕ, ◌*◌, ◌^◌, ◌<◌, length, get_or}
use Rattle.pb_export.specs.Indexing.{IsBefore}
use Rattle.pb_export.proofs.indexed_book.firsts_of.Given as goal

abbrev pub invariant-loop-front : goal.invariant-loop-front
invariant-loop-front l = record {
  many : length l.firsts.items ≡ l.front;
  each : (f : ℕ) → f < l.front → IsBefore l.entries (get_or l.firsts.items f 0) (f * 2 ^ 46);
  here : IsBefore l.entries l.start (l.front * 2 ^ 46);
}
