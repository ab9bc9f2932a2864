-- Bytes are one book, or none for one reason.
use Rattle.std.proofs.Common.{◌≡◌, ◌∙◌, ℕ, ◌+◌, ◌*◌, ◌≤◌, All, List, [], ◌∷◌, ◌++◌, Result, Ok, Err, ap, append-nil, arith, inl, inr, length, length-append, refl, subst, sym}
use Rattle.std.proofs.lemmas.Bool.{cases_lt}
use Rattle.pb_board.specs.Refusal.{BreaksAt}
use Rattle.pb_board.proofs.Breaks.{breaks_more, one_break}
use Rattle.pb_poly.specs.declared.book.Entry.{Entry}
use Rattle.pb_poly.specs.Entry.{IsEntry}
use Rattle.pb_poly.specs.Book.{IsBookFile, NeverFall, book_bytes}
use Rattle.pb_poly.specs.Reading.{AsBook, BookIs, Splits}
use Rattle.pb_poly.specs.Streams.{at_end}
use Rattle.pb_poly.proofs.EntryBytes.{NeverFall-front, none_falls, begins, book_is_one, length-book_bytes}
use Rattle.pb_poly.specs.declared.reading.BookError.{BookError}
use Rattle.pb_poly.specs.declared.reading.BookError.TheVariants as book

-- of two fronts of one text the shorter begins the longer
shorter_begins : (a x b y : List ℕ) → a ++ x ≡ b ++ y → length a ≤ length b → (z : List ℕ) × (b ≡ a ++ z)
shorter_begins [] x b y is few = (b, refl)
shorter_begins (h ∷ a) x [] y is few = absurd (omega arith)
shorter_begins (h ∷ a) x (k ∷ b) y is few =
    let same : k ≡ h = cc in
    let rest : a ++ x ≡ b ++ y = cc in
    let more = shorter_begins a x b y rest (omega arith) in
    (more.0, ap (λ n. n ∷ b) same ∙ ap (λ ns. h ∷ ns) more.1)

-- the same of entries, by their bytes
fewer_begin : (front entries : List Entry) (x y : List ℕ) → All IsEntry front → All IsEntry entries → book_bytes front ++ x ≡ book_bytes entries ++ y
    → length front ≤ length entries → (back : List Entry) × (entries ≡ front ++ back)
fewer_begin front entries x y h k is few =
    let less : length (book_bytes front) ≤ length (book_bytes entries) = omega (arith, length-book_bytes front, length-book_bytes entries) in
    let p = shorter_begins (book_bytes front) x (book_bytes entries) y is less in
    let c = begins entries front p.0 k h p.1 in (c.0, c.1)

-- where the keys of both fall, they fall at the same entry
same_fall : (n m : ℕ) (front entries : List Entry) (x y : List ℕ) → All IsEntry front → All IsEntry entries → book_bytes front ++ x ≡ book_bytes entries ++ y
    → BreaksAt NeverFall front n → BreaksAt NeverFall entries m → length front ≤ length entries → n ≡ m
same_fall n m front entries x y h k is first other few =
    let c = fewer_begin front entries x y h k is few in
    one_break NeverFall NeverFall-front entries n m (subst (λ es. BreaksAt NeverFall es n) (sym c.1) (breaks_more NeverFall front c.0 n first)) other

module _ (bytes : List ℕ) where
  -- the bytes begin with entries at one of which the keys fall, so with no more of them whose keys
  -- never do
  no_fall : (n : ℕ) → AsBook bytes (Err (book.Unsorted n)) → (entries : List Entry) (part : List ℕ) → Splits bytes entries part → ⊥
  no_fall n (front, rest, cut, (fallen, are, falls)) entries part s =
      let begun : book_bytes fallen ++ rest ≡ book_bytes entries ++ part = ap (λ bs. bs ++ rest) (sym are.are) ∙ sym cut ∙ s.bytes in
      let long = ap length begun ∙ length-append (book_bytes entries) part in
      let few : length fallen ≤ length entries =
      omega (arith, long, length-append (book_bytes fallen) rest, s.partial, length-book_bytes fallen, length-book_bytes entries) in
      let c = fewer_begin fallen entries rest part are.bounds s.bounds begun few in
      none_falls entries n s.ordered (subst (λ es. BreaksAt NeverFall es n) (sym c.1) (breaks_more NeverFall fallen c.0 n falls))

  one_fall : (n m : ℕ) → AsBook bytes (Err (book.Unsorted n)) → AsBook bytes (Err (book.Unsorted m)) → n ≡ m
  one_fall n m (front, x, cut, (es, h, first)) (front', y, cut', (fs, k, other)) =
      let begun : book_bytes es ++ x ≡ book_bytes fs ++ y = ap (λ bs. bs ++ x) (sym h.are) ∙ sym cut ∙ cut' ∙ ap (λ bs. bs ++ y) k.are in
      elim (cases_lt (length es) (length fs)) [
        | inl less ↦ same_fall n m es fs x y h.bounds k.bounds begun first other (omega arith)
        | inr most ↦ sym (same_fall m n fs es y x k.bounds h.bounds (sym begun) other first (omega arith))
      ]

  cut_length : (n : ℕ) (h : BookIs at_end bytes (Err (book.Cut n))) → length bytes ≡ 16 * length h.0 + n
  cut_length n h = omega (arith, ap length h.2.bytes, length-append (book_bytes h.0) h.1, length-book_bytes h.0, h.4)

  one_cut : (n m : ℕ) → BookIs at_end bytes (Err (book.Cut n)) → BookIs at_end bytes (Err (book.Cut m)) → n ≡ m
  one_cut n m h k = omega (arith, cut_length n h, cut_length m k, h.2.partial, k.2.partial, h.4, k.4)

  whole : (entries : List Entry) → IsBookFile entries bytes → Splits bytes entries []
  whole entries h = record {
    bounds = h.are.bounds;
    bytes = h.are.are ∙ sym (append-nil (book_bytes entries));
    partial = omega arith;
    ordered = h.ordered;
  }

  not_cut : (entries : List Entry) (n : ℕ) → IsBookFile entries bytes → BookIs at_end bytes (Err (book.Cut n)) → ⊥
  not_cut entries n h k = omega (arith, ap length h.are.are, length-book_bytes entries, cut_length n k, k.3, k.2.partial, k.4)

  -- bytes are one book, or no book for one reason
  pub one_book : (r x : Result (List Entry) BookError) → AsBook bytes r → AsBook bytes x → r ≡ x
  one_book (Ok entries) (Ok others) h k = ap (λ es. Ok es) (book_is_one entries others bytes h.are k.are)
  one_book (Ok entries) (Err (book.Unsorted m)) h k = absurd (no_fall m k entries [] (whole entries h))
  one_book (Ok entries) (Err (book.Cut m)) h k = absurd (not_cut entries m h k)
  one_book (Err (book.Unsorted n)) (Ok others) h k = absurd (no_fall n h others [] (whole others k))
  one_book (Err (book.Unsorted n)) (Err (book.Unsorted m)) h k = ap (λ number. Err (book.Unsorted number)) (one_fall n m h k)
  one_book (Err (book.Unsorted n)) (Err (book.Cut m)) h k = absurd (no_fall n h k.0 k.1 k.2)
  one_book (Err (book.Cut n)) (Ok others) h k = absurd (not_cut others n k h)
  one_book (Err (book.Cut n)) (Err (book.Unsorted m)) h k = absurd (no_fall m k h.0 h.1 h.2)
  one_book (Err (book.Cut n)) (Err (book.Cut m)) h k = ap (λ extra. Err (book.Cut extra)) (one_cut n m h k)
  one_book (Err book.Read) x h k = absurd h
  one_book (Err book.Endless) x h k = absurd h
  one_book (Err book.Memory) x h k = absurd h
  one_book r (Err book.Read) h k = absurd k
  one_book r (Err book.Endless) h k = absurd k
  one_book r (Err book.Memory) h k = absurd k
