use Rattle.std.proofs.Common.{◌≡◌, ◌≤◌, ◌<◌, ◌-◌, ◌+◌, ◌∷◌, ◌++◌, ◌∙◌, [], ℕ, List, Some, None, Err, ap, append-nil, arith, drop, length, refl, rules, sym, take, take-append-drop}
use Rattle.std.specs.Option.{option_copied}
use Rattle.std.specs.List.{slice_get}
use Rattle.pb_board.proofs.Breaks.{breaks_from}
use Rattle.pb_poly.specs.declared.book.Entry.{Entry}
use Rattle.pb_poly.specs.declared.reading.BookError.TheVariants.{Unsorted, Memory}
use Rattle.pb_poly.specs.Book.{BookBytes, NeverFall, keys_of}
use Rattle.pb_poly.specs.Entry.{IsEntry, entry_bytes}
use Rattle.pb_poly.specs.Ordered.{IsOrdered, last_from, last_key}
use Rattle.pb_poly.specs.Reading.{BookIs}
use Rattle.pb_poly.specs.Streams.{so_far}
use Rattle.pb_poly.proofs.Entries.{IsOrdered-push, falls}
use Rattle.pb_poly.proofs.Feeds.{IsTaken-more, IsTaken-fails}
use Rattle.pb_poly.proofs.reading.take_entries.Goals.{in-Some, in-None}
use Rattle.pb_poly.proofs.reading.take_entries.Goals as goal

last_at : (floor : ℕ) (x : Entry) (xs : List Entry) → (e : Entry) × (slice_get (x ∷ xs) (length xs) ≡ Some e) × (e.key ≡ last_from floor (keys_of (x ∷ xs)))
last_at floor x [] = (x, refl, refl)
last_at floor x (y ∷ ys) = last_at x.key y ys

last_none : (entries : List Entry) → None ≡ slice_get entries (length entries - 1) → 0 ≡ last_key entries
last_none [] at = refl
last_none (x ∷ xs) at =
    let l = last_at 0 x xs in
    let size : length (x ∷ xs) - 1 ≡ length xs = omega arith in
    let never : None ≡ Some l.0 = at ∙ ap (slice_get (x ∷ xs)) size ∙ l.1 in
    absurd (cc (never))

last_some : (entries : List Entry) (e : Entry) → Some e ≡ slice_get entries (length entries - 1) → e.key ≡ last_key entries
last_some [] e at = absurd (cc (at))
last_some (x ∷ xs) e at =
    let l = last_at 0 x xs in
    let size : length (x ∷ xs) - 1 ≡ length xs = omega arith in
    let same : e ≡ l.0 = cc (at ∙ ap (slice_get (x ∷ xs)) size ∙ l.1) in
    ap (λ (y : Entry). y.key) same ∙ l.2

-- an entry begins what is left
next : (entry : Entry) (front after rest : List ℕ) → front ≡ take 16 rest → after ≡ drop 16 rest → entry_bytes entry ≡ front → rest ≡ entry_bytes entry ++ after
next entry front after rest is left whole = sym (take-append-drop 16 rest) ∙ ap (λ xs. take 16 rest ++ xs) (sym left) ∙ ap (λ xs. xs ++ after) (sym is ∙ sym whole)

unsorted : (entries : List Entry) (entry : Entry) (last n : ℕ) → IsOrdered entries last → entry.key < last → n ≡ length entries → (bytes : List ℕ) → BookBytes (entries ++ entry ∷ []) bytes → BookIs so_far bytes (Err (Unsorted (n + 1)))
unsorted entries entry last n ordered low number bytes are =
    let all = entries ++ entry ∷ [] in
    (all, are, breaks_from NeverFall all entries entry [] (n + 1) refl (omega (arith, number)) ordered.ordered (falls entries entry last ordered.last_is low))

pub returns-then-entry-last_key-clause-err : goal.returns-then-entry-last_key-clause-err
returns-then-entry-last_key-clause-err c =
    let now = c.loop-front.invariant in
    let cut = c.in-Some-split_first_chunk.ensures.cases in
    IsTaken-fails _ _ _ _ now.taken c.from_bytes-entry.result c.in-Some-split_first_chunk.after.now c.loop-front.last_key (next _ _ _ _ cut.0 cut.1 c.from_bytes-entry.ensures.bytes) now.ordered c.from_bytes-entry.ensures.rules
    (Unsorted (c.len.result + 1)) (unsorted c.loop-front.entries.items c.from_bytes-entry.result c.loop-front.last_key c.len.result now.ordered c.if-entry-last_key.true (search rules))

pushed : (entries : List Entry) (entry : Entry) (last : ℕ) → IsOrdered entries last → IsEntry entry → last ≤ entry.key → IsOrdered (entries ++ entry ∷ []) entry.key
pushed entries entry last ordered one high = IsOrdered-push entries (entries ++ entry ∷ []) entry last entry.key ordered refl one refl high

pub returns-then-is_err-clause-err : goal.returns-then-is_err-clause-err
returns-then-is_err-clause-err c =
    let now = c.loop-front.invariant in
    let cut = c.in-Some-split_first_chunk.ensures.cases in
    let entry = c.from_bytes-entry.result in
    IsTaken-fails _ _ _ _ now.taken entry c.in-Some-split_first_chunk.after.now c.loop-front.last_key (next _ _ _ _ cut.0 cut.1 c.from_bytes-entry.ensures.bytes) now.ordered c.from_bytes-entry.ensures.rules Memory (λ bytes are. (
      c.loop-front.entries.items,
      entry,
      record { are = are; ordered = (pushed c.loop-front.entries.items entry c.loop-front.last_key now.ordered c.from_bytes-entry.ensures.rules c.if-entry-last_key.false).ordered },
    ))

pub loop-front-preserved : goal.loop-front-preserved
loop-front-preserved c =
    let now = c.loop-front.invariant in
    let cut = c.in-Some-split_first_chunk.ensures.cases in
    let entry = c.from_bytes-entry.result in
    let items : c.push.new.self.items ≡ c.loop-front.entries.items ++ entry ∷ [] = search rules in
    rw items (record {
      taken = IsTaken-more _ _ _ _ now.taken entry c.in-Some-split_first_chunk.after.now (next _ _ _ _ cut.0 cut.1 c.from_bytes-entry.ensures.bytes);
      ordered = pushed c.loop-front.entries.items entry c.loop-front.last_key now.ordered c.from_bytes-entry.ensures.rules c.if-entry-last_key.false;
    })

pub loop-front-init : goal.loop-front-init
loop-front-init c =
    let entries = c.args.entries.now.items in
    let at = c.last.ensures.value ∙ ap (λ (es : List Entry). slice_get es (length es - 1)) c.deref.ensures.value in
    let last_key_is : c.match-last.last_key ≡ last_key entries =
    elim c.match-last.branch [
      | in-Some w ↦ w.last_key-is ∙ last_some entries w.in-Some.last.now (sym (ap option_copied w.in-Some.is) ∙ at)
      | in-None w ↦ w.last_key-is ∙ last_none entries (sym (ap option_copied w.in-None.is) ∙ at)
    ] in
    record {
      taken = record { front = []; cut = refl; are = append-nil _ };
      ordered = record { ordered = c.requires.0; bounds = c.requires.1; last_is = last_key_is };
    }
