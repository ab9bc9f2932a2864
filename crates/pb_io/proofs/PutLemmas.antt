-- Bytes that are put part by part.
use Rattle.std.proofs.Common.{◌≡◌, ◌∙◌, ℕ, ◌+◌, ◌<◌, ◌≤◌, List, [], ◌++◌, Option, None, Some, Result, Ok, Err, Bor, ap, append-nil, append_assoc, drop, false, get_or, length, refl, subst, sym, take, take-append-drop, true}
use Rattle.std.proofs.KnownBytes.{Appends-kept, Appends-nil, Appends-trans}
use Rattle.std.proofs.Math.ListN.{drop_of_length-le}
use Rattle.std.proofs.Math.Seq.{take-append_seam, take-length}
use Rattle.std.proofs.lemmas.List.{drop_more}
use Rattle.std.specs.Io.KnownBytes.{Appends, Keeps}
use Rattle.std.specs.Result.{IsErr}
use Rattle.pb_io.specs.Sink.{Lasts, Put, SinkState, pieces_joined}

-- what lasts, by two steps
pub Lasts-trans : (old mid new : Option (List ℕ)) → Lasts old mid → Lasts mid new → Lasts old new
Lasts-trans None None new first next = next
Lasts-trans None (Some b) new first next = cc
Lasts-trans (Some a) None new first next = absurd first.1
Lasts-trans (Some a) (Some b) None first next = absurd next.1
Lasts-trans (Some a) (Some b) (Some c) first next =
    (first.0 ++ next.0, next.1 ∙ ap (λ bytes. bytes ++ next.0) first.1 ∙ append_assoc a first.0 next.0)

pub Lasts-refl : (known : Option (List ℕ)) → Lasts known known
Lasts-refl None = refl
Lasts-refl (Some bytes) = ([], sym (append-nil bytes))

module _ (old mid new : Option (List ℕ)) (done part rest whole : List ℕ) (written : Appends old mid done) (is : done ++ (part ++ rest) ≡ whole) where
  -- what was put, and one part more
  pub put_more : Appends mid new part → (more : List ℕ) × Appends old new more × (more ++ rest ≡ whole)
  put_more put = (done ++ part, Appends-trans old mid new done part written put, append_assoc done part rest ∙ is)

  -- what was put, and a front of one part more, is a front of the whole
  pub front_more : (k : ℕ) → Appends mid new (take k part) → (count : ℕ) × Appends old new (take count whole)
  front_more k put =
      let front = done ++ take k part in
      let back = drop k part ++ rest in
      let cut : front ++ back ≡ whole =
      append_assoc done (take k part) back ∙ ap (λ xs. done ++ xs) (sym (append_assoc (take k part) (drop k part) rest))
      ∙ ap (λ xs. done ++ (xs ++ rest)) (take-append-drop k part) ∙ is in
      let is_front : front ≡ take (length front) whole =
      sym (take-append_seam front back) ∙ ap (λ xs. take (length front) xs) cut in
      (length front, subst (Appends old new) is_front (Appends-trans old mid new done (take k part) written put))

-- all of it is a front of it
pub front_all : (old mid new : Option (List ℕ)) (whole : List ℕ) → Appends old mid whole → Keeps mid new
    → (count : ℕ) × Appends old new (take count whole)
front_all old mid new whole written kept =
    (length whole, subst (Appends old new) (sym (take-length whole)) (Appends-kept old mid new whole written kept))

-- a put that failed
pub put_failed : {E : Type 0} (old new : SinkState) (answer : Result (Unit {0}) E) (bytes : List ℕ) → IsErr answer
    → (count : ℕ) × Appends old.bytes new.bytes (take count bytes) → new.failed ≡ true → Lasts old.lasting new.lasting → new.flushed ≡ false
    → new.flushes ≡ old.flushes → Put old new answer bytes
put_failed old new (Ok v) bytes failing front failed lasts flushed flushes = let bad : false ≡ true = failing in cc
put_failed old new (Err e) bytes failing front failed lasts flushed flushes = record {
  all = tt;
  front = front;
  failed = failed;
  stays_failed = λ _. refl;
  lasts = lasts;
  flushed = flushed;
  flushes = flushes;
}

-- the last part of what is put
pub put_last : {E : Type 0} (old mid new : SinkState) (answer : Result (Unit {0}) E) (done part whole : List ℕ)
    → Appends old.bytes mid.bytes done → done ++ part ≡ whole → (old.failed ≡ true → mid.failed ≡ true)
    → Lasts old.lasting mid.lasting → mid.flushes ≡ old.flushes → Put mid new answer part → Put old new answer whole
put_last old mid new (Ok v) done part whole written is stays lasts flushes put = record {
  all = subst (Appends old.bytes new.bytes) is (Appends-trans _ _ _ done part written put.all);
  front = tt;
  failed = put.failed;
  stays_failed = λ before. put.stays_failed (stays before);
  lasts = Lasts-trans _ _ _ lasts put.lasts;
  flushed = put.flushed;
  flushes = put.flushes ∙ flushes;
}
put_last old mid new (Err e) done part whole written is stays lasts flushes put =
    let no_more : done ++ (part ++ []) ≡ whole = ap (λ xs. done ++ xs) (append-nil part) ∙ is in
    put_failed old new (Err e) whole refl (front_more _ _ _ done part [] whole written no_more put.front.0 put.front.1) put.failed (Lasts-trans _ _ _ lasts put.lasts) put.flushed (put.flushes ∙ flushes)

-- a put, and another
pub put_then : {E : Type 0} (old mid new : SinkState) (v : Unit {0}) (answer : Result (Unit {0}) E) (a b : List ℕ)
    → Put {E = E} old mid (Ok v) a → Put mid new answer b → Put old new answer (a ++ b)
put_then old mid new v answer a b before put =
    put_last old mid new answer a b (a ++ b) before.all refl (λ failed. let bad : false ≡ true = before.stays_failed failed in cc) before.lasts before.flushes put

-- a put that failed is a front of a longer one
pub put_cut : {E : Type 0} (old new : SinkState) (e : E) (answer : Result (Unit {0}) E) (a b : List ℕ) → IsErr answer
    → Put old new (Err e) a → Put old new answer (a ++ b)
put_cut old new e answer a b failing put =
    put_failed old new answer (a ++ b) failing (front_more old.bytes old.bytes new.bytes [] a b (a ++ b) (Appends-nil old.bytes) refl put.front.0 put.front.1) put.failed put.lasts put.flushed put.flushes

-- the bytes from a part on
pub parts_from : (parts : List (Bor (List ℕ))) (end : List ℕ) (i : ℕ) (d : Bor (List ℕ)) → i < length parts
    → pieces_joined (drop i parts) ++ end ≡ (get_or parts i d).now ++ (pieces_joined (drop (i + 1) parts) ++ end)
parts_from parts end i d below =
    ap (λ ps. pieces_joined ps ++ end) (drop_more parts i d below)
    ∙ append_assoc (get_or parts i d).now (pieces_joined (drop (i + 1) parts)) end

-- after the last part
pub parts_end : (parts : List (Bor (List ℕ))) (end : List ℕ) (i : ℕ) → length parts ≤ i → pieces_joined (drop i parts) ++ end ≡ end
parts_end parts end i past = ap (λ ps. pieces_joined ps ++ end) (drop_of_length-le parts past)
