-- Lines that are put one after the other, and then handed on.
use Rattle.std.proofs.Common.{◌≡◌, ◌∙◌, ℕ, ◌+◌, ◌<◌, ◌≤◌, List, [], ◌++◌, Ok, Err, ap, append-nil}
use Rattle.std.proofs.Common.{drop, get_or, length, refl, subst, sym}
use Rattle.std.specs.List.{flat_map}
use Rattle.std.specs.Io.KnownBytes.{Appends}
use Rattle.std.proofs.KnownBytes.{Appends-kept}
use Rattle.std.proofs.Math.ListN.{drop_of_length-le}
use Rattle.std.proofs.lemmas.List.{drop_more}
use Rattle.pb_board.specs.LineEnd.{with_end}
use Rattle.pb_moves.specs.Moved.{Moved}
use Rattle.pb_io.specs.Count.{next_count}
use Rattle.pb_io.specs.Sink.{Flush, Put, SinkState}
use Rattle.pb_io.specs.declared.source.Failed.{Failed}
use Rattle.pb_commands.specs.ProbeShown.{found_text}
use Rattle.pb_commands.specs.Judged.{Shows}
use Rattle.pb_io.specs.declared.fault.Fault.TheVariants.{Write}
use Rattle.pb_io.proofs.PutLemmas.{front_all, front_more, put_more}

-- bytes that were put, and couldn't be handed on
pub not_handed_on : (old mid new : SinkState) (bytes : List ℕ) (e : Failed) → Appends old.bytes mid.bytes bytes → mid.flushes ≡ old.flushes
    → Flush {E = Failed} mid new (Err e) → Shows {A = Unit {0}} old new (Err Write) bytes
not_handed_on old mid new bytes e put same flush = record {
  all = tt;
  handed_on = tt;
  fault = (refl, flush.failed);
  front = front_all _ _ _ _ put flush.bytes;
  flushes = flush.flushes ∙ same;
}

-- the line of one move that is found
abbrev pub found_line : Moved × ℕ → List ℕ
found_line pair = with_end (found_text pair)

-- the lines before one have been put, and not handed on
pub record PutsLines {X : Type 0} (line : X → List ℕ) (xs : List X) (i : ℕ) (old now : SinkState) : Type 0 where
  pub done : List ℕ
  pub put : Appends old.bytes now.bytes done
  pub cut : done ++ flat_map line (drop i xs) ≡ flat_map line xs
  pub flushes : now.flushes ≡ old.flushes

module _ {X : Type 0} (line : X → List ℕ) (xs : List X) (i : ℕ) (old mid new : SinkState) (before : PutsLines line xs i old mid) where
  cut_at : (d : X) → i < length xs → before.done ++ (line (get_or xs i d) ++ flat_map line (drop (i + 1) xs)) ≡ flat_map line xs
  cut_at d below = ap (λ bytes. before.done ++ bytes) (sym (ap (flat_map line) (drop_more xs i d below))) ∙ before.cut

  -- one line more
  pub PutsLines-more : (d : X) (v : Unit {0}) → i < length xs → Put {E = Failed} mid new (Ok v) (line (get_or xs i d)) → PutsLines line xs (i + 1) old new
  PutsLines-more d v below put =
      let more = put_more _ _ _ before.done _ _ _ before.put (cut_at d below) put.all in
      record { done = more.0; put = more.1; cut = more.2; flushes = put.flushes ∙ before.flushes }

  -- a line that couldn't be put
  pub line_fails : (d : X) (e : Failed) → i < length xs → Put {E = Failed} mid new (Err e) (line (get_or xs i d)) → Shows {A = Unit {0}} old new (Err Write) (flat_map line xs)
  line_fails d e below put = record {
    all = tt;
    handed_on = tt;
    fault = (refl, put.failed);
    front = front_more _ _ _ before.done _ _ _ before.put (cut_at d below) put.front.0 put.front.1;
    flushes = put.flushes ∙ before.flushes;
  }

  all_put : length xs ≤ i → Appends old.bytes mid.bytes (flat_map line xs)
  all_put past =
      let none : flat_map line (drop i xs) ≡ [] = ap (flat_map line) (drop_of_length-le xs past) in
      let is : before.done ≡ flat_map line xs = sym (append-nil before.done) ∙ ap (λ bytes. before.done ++ bytes) (sym none) ∙ before.cut in
      subst (Appends old.bytes mid.bytes) is before.put

  -- all lines, which couldn't be handed on
  pub flush_fails : (e : Failed) → length xs ≤ i → Flush {E = Failed} mid new (Err e) → Shows {A = Unit {0}} old new (Err Write) (flat_map line xs)
  flush_fails e past flush = not_handed_on old mid new (flat_map line xs) e (all_put past) before.flushes flush

  -- all lines, and they were handed on
  pub lines_shown : length xs ≤ i → Flush {E = Failed} mid new (Ok tt) → Shows {A = Unit {0}} old new (Ok tt) (flat_map line xs)
  lines_shown past flush = record {
    all = Appends-kept _ _ _ _ (all_put past) flush.bytes;
    handed_on = ((flush.failed, flush.flushed), flush.flushes ∙ ap next_count before.flushes);
    fault = tt;
    front = tt;
    flushes = tt;
  }
