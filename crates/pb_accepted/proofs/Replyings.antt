-- What is answered to lines, as the replies say it.
use Rattle.std.proofs.Common.{◌≡◌, ◌⊎◌, inl, inr, ℕ, zero, suc, ◌+◌, List, [], ◌∷◌, ◌++◌, ◌≤◌, length, drop, get_or, Some, None, Ok, Err, refl, sym, ap, subst, ◌∙◌, arith}
use Rattle.std.specs.Prelude.{codes, decimal, slice_get, slice_index_or}
use Rattle.std.specs.List.{flat_map}
use Rattle.std.proofs.lemmas.List.{append_assoc}
use Rattle.std.proofs.lemmas.Option.{slice_get_within}
use Rattle.pb_board.specs.Fields.{field}
use Rattle.pb_board.specs.LineEnd.{with_end}
use Rattle.pb_games.specs.declared.refusal.Refusal.TheVariants.{Conflict, Full, Memory}
use Rattle.pb_games.specs.Cuts.{fields_of}
use Rattle.pb_games.specs.Submissions.{Submits, Submission}
use Rattle.pb_games.proofs.Texts.{fields_back}
use Rattle.pb_accepted.specs.Accepting.{Answer, Run, Step, replies, reply, reply_text, reply_texts}
use Rattle.pb_accepted.specs.Accepting as step
use Rattle.pb_accepted.specs.Refusals.{IsRefused}
use Rattle.pb_accepted.specs.Replying as replied
use Rattle.pb_accepted.specs.Replying.{most_games, AreNumbered, Arrives, IsNumber, Replies, Reply, ok, refused}
use Rattle.pb_accepted.proofs.Decimals.{same_number}
use Rattle.pb_accepted.proofs.Held.{has_room}
use Rattle.pb_accepted.proofs.RefusedTexts.{refused_to}
use Rattle.pb_accepted.proofs.Steps.{runs_number}

-- the id that a lawful line names
id_is : (line : List ℕ) (s : Submission) → Submits line s → field (fields_of line) 0 ≡ s.0
id_is line s h = ap (λ (cells : List (List ℕ)). slice_index_or cells 0 []) (fields_back line s h)

module _ (line : List ℕ) (s : Submission) (law : Submits line s) where
  pub ok_is : (n : ℕ) → reply line (Ok n) ≡ ok s n
  ok_is n = ap (λ (id : List ℕ). reply_text id (Ok n)) (id_is line s law)

  full_is : reply line (Err Full) ≡ refused (s.0 ++ codes " full")
  full_is = ap (λ (id : List ℕ). reply_text id (Err Full)) (id_is line s law)

  memory_is : reply line (Err Memory) ≡ refused (s.0 ++ codes " memory")
  memory_is = ap (λ (id : List ℕ). reply_text id (Err Memory)) (id_is line s law)

  conflict_is : (n : ℕ) → reply line (Err (Conflict n)) ≡ refused (s.0 ++ codes " conflict " ++ decimal n)
  conflict_is n = ap (λ (id : List ℕ). reply_text id (Err (Conflict n))) (id_is line s law) ∙ ap refused (sym (append_assoc s.0 (codes " conflict ") (decimal n)))

-- ---- steps and runs

step_to : (cap : ℕ) (A : List Submission) (line : List ℕ) (r : Answer) (B : List Submission) → Step cap A line r B → Reply cap A line (reply line r) B
step_to cap A line r B (step.new s law fresh room e f) = replied.new s (law, fresh) room (ap (reply line) e ∙ ok_is line s law (length A + 1)) f
step_to cap A line r B (step.full s law fresh many e f) = replied.full s (law, fresh) many (ap (reply line) e ∙ full_is line s law) f
step_to cap A line r B (step.memory s law fresh room e f) = replied.memory s (law, fresh) room (ap (reply line) e ∙ memory_is line s law) f
step_to cap A line r B (step.repeat s n law at e f) = replied.repeat s n law at (ap (reply line) e ∙ ok_is line s law n) f
step_to cap A line r B (step.conflict s g n law at differs e f) = replied.conflict s g n law at differs (ap (reply line) e ∙ conflict_is line s law n) f
step_to cap A line r B (step.refused e why is f) = replied.refused_alone _ (refused_to line e why) (ap (reply line) is) f

-- and back: a reply is that of an answer, or why the line is refused by itself
pub reply_from : (cap : ℕ) (A : List Submission) (line r : List ℕ) (B : List Submission) → Reply cap A line r B → ((a : Answer) × Step cap A line a B × (r ≡ reply line a))
    ⊎ ((why : List ℕ) × IsRefused line why × (r ≡ refused why) × (B ≡ A))
reply_from cap A line r B (replied.new s fresh room e f) = inl (Ok (length A + 1), step.new s fresh.0 fresh.1 room refl f, e ∙ sym (ok_is line s fresh.0 (length A + 1)))
reply_from cap A line r B (replied.full s fresh many e f) = inl (Err Full, step.full s fresh.0 fresh.1 many refl f, e ∙ sym (full_is line s fresh.0))
reply_from cap A line r B (replied.memory s fresh room e f) = inl (Err Memory, step.memory s fresh.0 fresh.1 room refl f, e ∙ sym (memory_is line s fresh.0))
reply_from cap A line r B (replied.repeat s n law at e f) = inl (Ok n, step.repeat s n law at refl f, e ∙ sym (ok_is line s law n))
reply_from cap A line r B (replied.conflict s g n law at differs e f) = inl (Err (Conflict n), step.conflict s g n law at differs refl f, e ∙ sym (conflict_is line s law n))
reply_from cap A line r B (replied.refused_alone why is e f) = inr (why, is, e, f)

pub run_to : (cap : ℕ) (A : List Submission) (L : List (List ℕ)) (R : List Answer) (B : List Submission) → Run cap A L R B → Replies cap A L (reply_texts L R) B
run_to cap A [] [] B h = h
run_to cap A (line ∷ L) (r ∷ R) B h = (h.0, step_to cap A line r h.0 h.1, run_to cap h.0 L R B h.2)
run_to cap A [] (r ∷ R) B h = absurd h
run_to cap A (line ∷ L) [] B h = absurd h

pub replies_are : (L : List (List ℕ)) (R : List Answer) → replies L R ≡ flat_map with_end (reply_texts L R)
replies_are [] [] = refl
replies_are [] (r ∷ R) = refl
replies_are (line ∷ L) [] = refl
replies_are (line ∷ L) (r ∷ R) = ap (λ (rest : List ℕ). with_end (reply line r) ++ rest) (replies_are L R)

-- ---- one reply of many

one_some : {X : Type 0} (x y : X) → Some x ≡ Some y → x ≡ y
one_some x y e = cc

pub reply_at : (L : List (List ℕ)) (R : List Answer) (i : ℕ) (line : List ℕ) (r : Answer) → slice_get L i ≡ Some line → slice_get R i ≡ Some r
    → slice_get (reply_texts L R) i ≡ Some (reply line r)
reply_at [] R i line r here said = absurd (let no_line : None ≡ Some line = here in cc)
reply_at (l ∷ L) [] i line r here said = absurd (let no_answer : None ≡ Some r = said in cc)
reply_at (l ∷ L) (q ∷ R) zero line r here said = ap (λ (x : List ℕ). Some (reply x q)) (one_some l line here) ∙ ap (λ (x : Answer). Some (reply line x)) (one_some q r said)
reply_at (l ∷ L) (q ∷ R) (suc i) line r here said = reply_at L R i line r here said

pub told_back : (L : List (List ℕ)) (R : List Answer) (i : ℕ) (line text : List ℕ) → slice_get L i ≡ Some line → slice_get (reply_texts L R) i ≡ Some text
    → (r : Answer) × (slice_get R i ≡ Some r) × (text ≡ reply line r)
told_back [] R i line text here said = absurd (let no_line : None ≡ Some line = here in cc)
told_back (l ∷ L) [] i line text here said = absurd (let no_answer : None ≡ Some text = said in cc)
told_back (l ∷ L) (q ∷ R) zero line text here said = (q, refl, sym (one_some (reply l q) text said) ∙ ap (λ (x : List ℕ). reply x q) (one_some l line here))
told_back (l ∷ L) (q ∷ R) (suc i) line text here said = told_back L R i line text here said

-- a reply `ok` is that of a number
cancel : (xs ys zs : List ℕ) → xs ++ ys ≡ xs ++ zs → ys ≡ zs
cancel [] ys zs e = e
cancel (x ∷ xs) ys zs e = cancel xs ys zs (ap (drop 1) e)

pub ok_back : (line : List ℕ) (s : Submission) (n : ℕ) (r : Answer) → Submits line s → ok s n ≡ reply line r → (m : ℕ) × (r ≡ Ok m) × (decimal m ≡ decimal n)
ok_back line s n (Ok m) law e =
    let same : ok s n ≡ ok s m = e ∙ ok_is line s law m in
    (m, refl, sym (ap (drop 1) (cancel s.0 (32 ∷ decimal n) (32 ∷ decimal m) (ap (drop 3) same))))
ok_back line s n (Err x) law e = absurd (let first = ap (λ (t : List ℕ). get_or t 0 0) e in omega (arith, first))

-- ---- the replies number what is held

module _ (L : List (List ℕ)) (R : List Answer) (games : List Submission) (run : Run most_games [] L R games) where
  numbers : AreNumbered (λ s n. let r : Answer = Ok n in r) L R games
  numbers = runs_number most_games L R games run

  ok_to : (i n : ℕ) (s : Submission) → (a : Arrives L i s) → slice_get R i ≡ Some (Ok n) → slice_get (reply_texts L R) i ≡ Some (ok s n)
  ok_to i n s a at = reply_at L R i a.0 (Ok n) a.1 at ∙ ap (λ (t : List ℕ). Some t) (ok_is a.0 s a.2 n)

  -- the number of a game that is held is no more than a million
  small : (m : ℕ) (s : Submission) → IsNumber games m s → m ≤ 1000000
  small m s at = omega (arith, slice_get_within games at.0 s at.2, at.1, has_room most_games L R games run)

  ok_from : (i n : ℕ) (s : Submission) → (a : Arrives L i s) → slice_get (reply_texts L R) i ≡ Some (ok s n) → slice_get R i ≡ Some (Ok n)
  ok_from i n s a at =
      let back = told_back L R i a.0 (ok s n) a.1 at in
      let number = ok_back a.0 s n back.0 a.2 back.2 in
      let here : slice_get R i ≡ Some (Ok number.0) = back.1 ∙ ap (λ (r : Answer). Some r) number.1 in
      let held = (numbers.are number.0 s).1 (i, (a, here)) in
      subst (λ (k : ℕ). slice_get R i ≡ Some (Ok k)) (same_number number.0 n (small number.0 s held) number.2) here

  pub replies_number : AreNumbered ok L (reply_texts L R) games
  replies_number = record {
    are = λ n s. (
      (λ at. let g = (numbers.are n s).0 at in (g.0, (g.1.0, ok_to g.0 n s g.1.0 g.1.1))),
      λ h. (numbers.are n s).1 (h.0, (h.1.0, ok_from h.0 n s h.1.0 h.1.1)),
    );
    ids = numbers.ids;
    repeats = λ i j n s lt was here. ok_to j n s here (numbers.repeats i j n s lt (was.0, ok_from i n s was.0 was.1) here);
  }
