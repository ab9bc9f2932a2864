-- Entries out of their bytes again.
use Rattle.std.proofs.Common.{◌≡◌, ℕ, ◌*◌, List, [], ◌∷◌, ◌++◌, length, length-append, refl, sym, ap, ◌∙◌, subst, append_assoc, arith, All}
use Rattle.std.specs.Int.{w16, w32, w64, from_be_bytes, to_be_bytes}
use Rattle.std.proofs.lemmas.List.{append-nil, map-append}
use Rattle.std.proofs.lemmas.List.Elements.{All-head, All-tail}
use Rattle.std.proofs.lemmas.Nat.{from_be_bytes-to_be_bytes_2, from_be_bytes-to_be_bytes_4, from_be_bytes-to_be_bytes_8}
use Rattle.pb_board.specs.Refusal.{BreaksAt}
use Rattle.pb_board.proofs.Breaks.{unbroken}
use Rattle.pb_poly.specs.declared.book.Entry.{Entry}
use Rattle.pb_poly.specs.Entry.{IsEntry, entry_bytes}
use Rattle.pb_poly.specs.Book.{BookBytes, NeverFall, NeverFallsFrom, book_bytes, keys_of}

-- two texts of fronts of one length
apart : (xs ys us vs : List ℕ) → length xs ≡ length us → xs ++ ys ≡ us ++ vs → (xs ≡ us) × (ys ≡ vs)
apart [] ys [] vs n e = (refl, e)
apart [] ys (u ∷ us) vs n e = absurd (omega arith)
apart (x ∷ xs) ys [] vs n e = absurd (omega arith)
apart (x ∷ xs) ys (u ∷ us) vs n e =
    let head : x ≡ u = cc in
    let tail : xs ++ ys ≡ us ++ vs = cc in
    let more = apart xs ys us vs (omega arith) tail in
    let front = more.0 in
    (cc, more.1)

abbrev entry_of : ℕ → ℕ → ℕ → ℕ → Entry
entry_of key code weight learn = record { key = key; code = code; weight = weight; learn = learn }

-- no two entries have the same bytes
entry_is_one : (e f : Entry) → IsEntry e → IsEntry f → entry_bytes e ≡ entry_bytes f → e ≡ f
entry_is_one e f x y same =
    let a = apart (to_be_bytes w64 e.key) (to_be_bytes w16 e.code ++ to_be_bytes w16 e.weight ++ to_be_bytes w32 e.learn) (to_be_bytes w64 f.key) (to_be_bytes w16 f.code ++ to_be_bytes w16 f.weight ++ to_be_bytes w32 f.learn) refl same in
    let b = apart (to_be_bytes w16 e.code) (to_be_bytes w16 e.weight ++ to_be_bytes w32 e.learn) (to_be_bytes w16 f.code) (to_be_bytes w16 f.weight ++ to_be_bytes w32 f.learn) refl a.1 in
    let c = apart (to_be_bytes w16 e.weight) (to_be_bytes w32 e.learn) (to_be_bytes w16 f.weight) (to_be_bytes w32 f.learn) refl b.1 in
    let key : e.key ≡ f.key = sym (from_be_bytes-to_be_bytes_8 e.key x.key) ∙ ap (λ bytes. from_be_bytes w64 bytes) a.0 ∙ from_be_bytes-to_be_bytes_8 f.key y.key in
    let code : e.code ≡ f.code = sym (from_be_bytes-to_be_bytes_2 e.code x.code) ∙ ap (λ bytes. from_be_bytes w16 bytes) b.0 ∙ from_be_bytes-to_be_bytes_2 f.code y.code in
    let weight : e.weight ≡ f.weight = sym (from_be_bytes-to_be_bytes_2 e.weight x.weight) ∙ ap (λ bytes. from_be_bytes w16 bytes) c.0 ∙ from_be_bytes-to_be_bytes_2 f.weight y.weight in
    let learn : e.learn ≡ f.learn = sym (from_be_bytes-to_be_bytes_4 e.learn x.learn) ∙ ap (λ bytes. from_be_bytes w32 bytes) c.1 ∙ from_be_bytes-to_be_bytes_4 f.learn y.learn in
    ap (λ n. entry_of n e.code e.weight e.learn) key ∙ ap (λ n. entry_of f.key n e.weight e.learn) code ∙ ap (λ n. entry_of f.key f.code n e.learn) weight ∙ ap (λ n. entry_of f.key f.code f.weight n) learn

-- entries whose bytes begin with those of others begin with them
pub begins : (entries front : List Entry) (rest : List ℕ) → All IsEntry entries → All IsEntry front → book_bytes entries ≡ book_bytes front ++ rest
    → (back : List Entry) × (entries ≡ front ++ back) × (book_bytes back ≡ rest)
begins entries [] rest h k is = (entries, refl, is)
begins [] (f ∷ front) rest h k is = absurd (cc)
begins (e ∷ entries) (f ∷ front) rest h k is =
    let parts = apart (entry_bytes e) (book_bytes entries) (entry_bytes f) (book_bytes front ++ rest) refl (is ∙ append_assoc (entry_bytes f) (book_bytes front) rest) in
    let same = entry_is_one e f (All-head IsEntry e entries h) (All-head IsEntry f front k) parts.0 in
    let more = begins entries front rest (All-tail IsEntry e entries h) (All-tail IsEntry f front k) parts.1 in
    (more.0, ap (λ (x : Entry). x ∷ entries) same ∙ ap (λ es. f ∷ es) more.1, more.2)

pub none_without_bytes : (entries : List Entry) → book_bytes entries ≡ [] → entries ≡ []
none_without_bytes [] is = refl
none_without_bytes (e ∷ entries) is = absurd (cc)

pub length-book_bytes : (entries : List Entry) → length (book_bytes entries) ≡ 16 * length entries
length-book_bytes [] = refl
length-book_bytes (e ∷ entries) = let more = length-book_bytes entries in let both = length-append (entry_bytes e) (book_bytes entries) in omega (arith, more, both)

pub book_is_one : (entries others : List Entry) (bytes : List ℕ) → BookBytes entries bytes → BookBytes others bytes → entries ≡ others
book_is_one entries others bytes x y =
    let cut = begins entries others [] x.bounds y.bounds (sym x.are ∙ y.are ∙ sym (append-nil (book_bytes others))) in
    cut.1 ∙ ap (λ es. others ++ es) (none_without_bytes cut.0 cut.2) ∙ append-nil others

pub bytes_are_one : (entries : List Entry) (bytes others : List ℕ) → BookBytes entries bytes → BookBytes entries others → bytes ≡ others
bytes_are_one entries bytes others x y = x.are ∙ sym y.are

front_never_falls : (floor : ℕ) (front back : List ℕ) → NeverFallsFrom floor (front ++ back) → NeverFallsFrom floor front
front_never_falls floor [] back h = tt
front_never_falls floor (n ∷ front) back h = (h.0, front_never_falls n front back h.1)

pub NeverFall-front : (front back : List Entry) → NeverFall (front ++ back) → NeverFall front
NeverFall-front front back h =
    front_never_falls 0 (keys_of front) (keys_of back) (subst (λ (ns : List ℕ). NeverFallsFrom 0 ns) (map-append (λ (e : Entry). e.key) front back) h)

-- where the keys never fall, none is the first that does
pub none_falls : (entries : List Entry) (number : ℕ) → NeverFall entries → ¬ BreaksAt NeverFall entries number
none_falls = unbroken NeverFall NeverFall-front
