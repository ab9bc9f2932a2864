-- Keys that never fall, and the bytes of entries.
use Rattle.std.proofs.Common.{◌≡◌, ℕ, zero, suc, ◌+◌, ◌<◌, ◌≤◌, List, [], ◌∷◌, ◌++◌, length, take, drop, get_or, take-append-drop, refl, sym, ap, ◌∙◌, subst, append_assoc, arith, All}
use Rattle.std.proofs.lemmas.List.{append-nil, drop_more, map-append}
use Rattle.std.proofs.lemmas.List.Elements.{All-append, All-cons, All-nil}
use Rattle.pb_board.specs.Refusal.{BreaksAt}
use Rattle.pb_board.proofs.Breaks.{breaks_after}
use Rattle.pb_poly.specs.declared.book.Entry.{Entry}
use Rattle.pb_poly.specs.Entry.{IsEntry, entry_bytes}
use Rattle.pb_poly.specs.Ordered.{IsOrdered, last_from, last_key}
use Rattle.pb_poly.specs.Book.{NeverFall, NeverFallsFrom, book_bytes, keys_of}

never_falls-push : (floor : ℕ) (ns : List ℕ) (n : ℕ) → NeverFallsFrom floor ns → last_from floor ns ≤ n → NeverFallsFrom floor (ns ++ n ∷ [])
never_falls-push floor [] n h l = (l, tt)
never_falls-push floor (m ∷ ns) n h l = (h.0, never_falls-push m ns n h.1 l)

never_falls-last : (floor : ℕ) (ns : List ℕ) (n : ℕ) → NeverFallsFrom floor (ns ++ n ∷ []) → last_from floor ns ≤ n
never_falls-last floor [] n h = h.0
never_falls-last floor (m ∷ ns) n h = never_falls-last m ns n h.1

last_from-push : (floor : ℕ) (ns : List ℕ) (n : ℕ) → last_from floor (ns ++ n ∷ []) ≡ n
last_from-push floor [] n = refl
last_from-push floor (m ∷ ns) n = last_from-push m ns n

NeverFall-push : (entries : List Entry) (entry : Entry) (last : ℕ) → NeverFall entries → last ≡ last_key entries → last ≤ entry.key → NeverFall (entries ++ entry ∷ [])
NeverFall-push entries entry last h is l =
    subst (λ (ns : List ℕ). NeverFallsFrom 0 ns) (sym (map-append (λ (e : Entry). e.key) entries (entry ∷ []))) (never_falls-push 0 (keys_of entries) entry.key h (omega (arith, is)))

pub falls : (entries : List Entry) (entry : Entry) (last : ℕ) → last ≡ last_key entries → entry.key < last → ¬ NeverFall (entries ++ entry ∷ [])
falls entries entry last is l h =
    let below = never_falls-last 0 (keys_of entries) entry.key (subst (λ (ns : List ℕ). NeverFallsFrom 0 ns) (map-append (λ (e : Entry). e.key) entries (entry ∷ [])) h) in omega (arith, is, below)

last_key-push : (entries : List Entry) (entry : Entry) → entry.key ≡ last_key (entries ++ entry ∷ [])
last_key-push entries entry = sym (ap (last_from 0) (map-append (λ (e : Entry). e.key) entries (entry ∷ [])) ∙ last_from-push 0 (keys_of entries) entry.key)

pub bounds-push : (entries : List Entry) (entry : Entry) → All IsEntry entries → IsEntry entry → All IsEntry (entries ++ entry ∷ [])
bounds-push entries entry all one = All-append IsEntry entries (entry ∷ []) all (All-cons IsEntry entry [] one (All-nil IsEntry))

pub book_bytes-append : (front back : List Entry) → book_bytes (front ++ back) ≡ book_bytes front ++ book_bytes back
book_bytes-append [] back = refl
book_bytes-append (e ∷ front) back = ap (λ xs. entry_bytes e ++ xs) (book_bytes-append front back) ∙ sym (append_assoc (entry_bytes e) (book_bytes front) (book_bytes back))

pub book_bytes-push : (entries : List Entry) (entry : Entry) → book_bytes (entries ++ entry ∷ []) ≡ book_bytes entries ++ entry_bytes entry
book_bytes-push entries entry = book_bytes-append entries (entry ∷ []) ∙ ap (λ xs. book_bytes entries ++ xs) (append-nil (entry_bytes entry))

-- a front of a piece is, after what comes before it, a front of the whole
front_within : (piece rest : List ℕ) (count : ℕ) → (n : ℕ) × (take n (piece ++ rest) ≡ take count piece)
front_within [] rest zero = (0, refl)
front_within [] rest (suc count) = (0, refl)
front_within (b ∷ piece) rest zero = (0, refl)
front_within (b ∷ piece) rest (suc count) = let more = front_within piece rest count in (suc more.0, ap (λ xs. b ∷ xs) more.1)

front_of_whole : (before piece rest : List ℕ) (count : ℕ) → (n : ℕ) × (take n (before ++ (piece ++ rest)) ≡ before ++ take count piece)
front_of_whole [] piece rest count = front_within piece rest count
front_of_whole (b ∷ before) piece rest count = let more = front_of_whole before piece rest count in (suc more.0, ap (λ xs. b ∷ xs) more.1)

pub IsOrdered-push : (entries more : List Entry) (entry : Entry) (last key : ℕ) → IsOrdered entries last → more ≡ entries ++ entry ∷ [] → IsEntry entry → key ≡ entry.key → last ≤ key → IsOrdered more key
IsOrdered-push entries more entry last key h is one key_is l =
    let pushed : IsOrdered (entries ++ entry ∷ []) key = record {
      ordered = NeverFall-push entries entry last h.ordered h.last_is (omega (arith, key_is));
      bounds = bounds-push entries entry h.bounds one;
      last_is = key_is ∙ last_key-push entries entry;
    } in
    subst (λ (es : List Entry). IsOrdered es key) (sym is) pushed

-- an entry whose key is below the last one is the first that falls
pub first_fall_at : (entries : List Entry) (i last key : ℕ) (d : Entry) → IsOrdered (take i entries) last → i < length entries → key ≡ (get_or entries i d).key → key < last → BreaksAt NeverFall entries (i + 1)
first_fall_at entries i last key d h within key_is low =
    breaks_after NeverFall entries i d within h.ordered (falls (take i entries) (get_or entries i d) last h.last_is (omega (arith, key_is)))

-- a front of an entry's bytes is, after those of the entries before it, a front of the book's
pub front_of_book : (entries : List Entry) (i : ℕ) (d : Entry) (count : ℕ) → i < length entries → (n : ℕ) × (take n (book_bytes entries) ≡ book_bytes (take i entries) ++ take count (entry_bytes (get_or entries i d)))
front_of_book entries i d count within =
    let e : Entry = get_or entries i d in
    let back : List Entry = drop (i + 1) entries in
    let cut : entries ≡ take i entries ++ e ∷ back = sym (take-append-drop i entries) ∙ ap (λ es. take i entries ++ es) (drop_more entries i d within) in
    let whole : book_bytes entries ≡ book_bytes (take i entries) ++ (entry_bytes e ++ book_bytes back) = ap book_bytes cut ∙ book_bytes-append (take i entries) (e ∷ back) in
    let f = front_of_whole (book_bytes (take i entries)) (entry_bytes e) (book_bytes back) count in
    (f.0, ap (λ xs. take f.0 xs) whole ∙ f.1)
