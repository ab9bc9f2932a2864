-- A step of the table is an answer that is allowed and the list that it leaves; so are runs. The
-- laws of steps follow.
use Rattle.std.proofs.Common.{◌≡◌, ◌≢◌, ℕ, ◌+◌, List, [], ◌∷◌, ◌++◌, length, take, Ok, Err, true, false, nat_lt, ap, refl, sym, subst, inl, inr, arith}
use Rattle.std.proofs.lemmas.Bool.{le-ltb, lt-ltb}
use Rattle.std.proofs.lemmas.List.{length_push}
use Rattle.std.proofs.lemmas.Option.{get_or_from_slice_get, slice_get_within}
use Rattle.std.specs.Prelude.{◌<◌, ◌≤◌, ◌⊎◌, All, Some, slice_get}
use Rattle.pb_games.specs.declared.refusal.Refusal.TheVariants.{Conflict, Full, Memory}
use Rattle.pb_games.specs.Submissions.{Submission, Submits}
use Rattle.pb_games.specs.declared.refusal.Refusal.{Refusal}
use Rattle.pb_accepted.specs.Accepting as steps
use Rattle.pb_accepted.specs.Accepting.{Answer, Run, Step, OneGame, Taken, named, NoRepeats, SameMembers}
use Rattle.pb_accepted.specs.Replying.{Arrives, IsNewId, IsNumber, AreNumbered}
use Rattle.pb_accepted.specs.Counting.{counted, IsBook}
use Rattle.pb_accepted.specs.Replying.{HaveOwnIds}
use Rattle.pb_accepted.proofs.Allowing.{Accepted, Allowed, AllowedRun, Reply, Takes}
use Rattle.pb_accepted.proofs.BookLaws.{one_book, same_book}
use Rattle.pb_accepted.proofs.Distinct.{accepts_the_taken, lawful_arrives, no_conflict}
use Rattle.pb_accepted.proofs.Naming.{named_short}
use Rattle.pb_accepted.proofs.Numbers.{numbers_given, repeats_keep}
use Rattle.pb_accepted.proofs.Replies.{id_of, Answered, answered, held, new, other, full, allowed_held, one_reply, Allowed-full, Allowed-new, Allowed-memory, Allowed-refused, Takes-held, Takes-new, Takes-refused, Takes-refusal, Takes-full, Takes-memory, Takes-unique}
use Rattle.pb_accepted.proofs.Runs.{Accepted-append, Accepted-unique, Run-append, own_ids}
use Rattle.pb_accepted.specs.Rules.{Basis}
use Rattle.pb_poly.specs.declared.book.Entry.{Entry}

-- ---- from a step

abbrev Both : ℕ → List Submission → List ℕ → Answer → List Submission → Type 0
Both cap A line r B = Allowed cap A line r × Takes A line r B

by_equal : (cap : ℕ) (A : List Submission) (line : List ℕ) (r q : Answer) (B C : List Submission) → r ≡ q → B ≡ C → Both cap A line q C → Both cap A line r B
by_equal cap A line r q B C e f h = subst (λ x. Both cap A line x B) (sym e) (subst (λ X. Both cap A line q X) (sym f) h)

pub step_to : (cap : ℕ) (A : List Submission) (line : List ℕ) (r : Answer) (B : List Submission) → Step cap A line r B → Allowed cap A line r × Takes A line r B
step_to cap A line r B (steps.new s law fresh room e f) =
    by_equal cap A line r _ B _ e f (Allowed-new cap A line s law fresh room, Takes-new cap A line s law (length A + 1) fresh)
step_to cap A line r B (steps.full s law fresh many e f) = by_equal cap A line r _ B _ e f (Allowed-full cap A line s law fresh many, Takes-full A line)
step_to cap A line r B (steps.memory s law fresh room e f) = by_equal cap A line r _ B _ e f (Allowed-memory cap A line s law fresh room, Takes-memory A line)
step_to cap A line r B (steps.repeat s n law at e f) =
    by_equal cap A line r (Ok n) B A e f (inl (inl (s, law, inl at)), Takes-held cap A line s law at.0 s.1 (Ok n) at.2)
step_to cap A line r B (steps.conflict s g n law at differs e f) =
    by_equal cap A line r (Err (Conflict n)) B A e f (inl (inl (s, law, (g, at, differs))), Takes-held cap A line s law at.0 g (Err (Conflict n)) at.2)
step_to cap A line r B (steps.refused x why e f) = by_equal cap A line r _ B _ e f (Allowed-refused cap A line x why, Takes-refused A line x why)

-- ---- to a step

-- no submission has the number that is next
next_is_free : (A : List Submission) (s : Submission) → IsNumber A (length A + 1) s → ⊥
next_is_free A s at = omega (arith, slice_get_within A at.0 s at.2, at.1)

module _ (cap : ℕ) (A : List Submission) (line : List ℕ) (B : List Submission) where
  lawful_step : (r : Answer) (s : Submission) → Submits line s → Answered cap A s r → Takes A line r B → Step cap A line r B
  lawful_step r s law (held n e at) takes = steps.repeat s n law at e (Takes-unique A line r B A takes (Takes-held cap A line s law at.0 s.1 r at.2))
  lawful_step r s law (new e fresh room) takes =
      steps.new s law fresh room e (Takes-unique A line r B (A ++ s ∷ []) takes (subst (λ x. Takes A line x (A ++ s ∷ [])) (sym e) (Takes-new cap A line s law (length A + 1) fresh)))
  lawful_step r s law (other n g e at differs) takes = steps.conflict s g n law at differs e (Takes-unique A line r B A takes (Takes-held cap A line s law at.0 g r at.2))
  lawful_step r s law (full e fresh many) takes = steps.full s law fresh many e (Takes-unique A line r B A takes (subst (λ x. Takes A line x A) (sym e) (Takes-full A line)))

  pub step_from : (r : Answer) → Allowed cap A line r → Takes A line r B → Step cap A line r B
  step_from r (inl (inl h)) takes = lawful_step r h.0 h.1 (answered cap A h.0 r h.2) takes
  step_from r (inl (inr h)) takes = steps.refused h.0 h.2 h.1 (Takes-unique A line r B A takes (subst (λ x. Takes A line x A) (sym h.1) (Takes-refused A line h.0 h.2)))
  step_from r (inr (e, inl (s, law, inl at))) takes = absurd (next_is_free A s at)
  step_from r (inr (e, inl (s, law, inr (fresh, room, _)))) takes =
      steps.memory s law fresh room e (Takes-unique A line r B A takes (subst (λ x. Takes A line x A) (sym e) (Takes-memory A line)))
  step_from r (inr (e, inr h)) takes = absurd (let no = h.1 in cc)

-- a line that was answered leaves one list, whatever room there was
pub one_left : (cap most : ℕ) (A : List Submission) (line : List ℕ) (r : Answer) (B C : List Submission) → Step cap A line r B → Step most A line r C → B ≡ C
one_left cap most A line r B C h k = Takes-unique A line r B C (step_to cap A line r B h).1 (step_to most A line r C k).1

-- ---- runs

pub run_to : (cap : ℕ) (A : List Submission) (L : List (List ℕ)) (R : List Answer) (B : List Submission) → Run cap A L R B → AllowedRun cap A L R × Accepted A L R B
run_to cap A [] [] B h = (tt, h)
run_to cap A (line ∷ L) (r ∷ R) B h =
    let both = step_to cap A line r h.0 h.1 in
    let rest = run_to cap h.0 L R B h.2 in
    ((h.0, both.0, both.1, rest.0), (h.0, both.1, rest.1))
run_to cap A [] (r ∷ R) B h = absurd h
run_to cap A (line ∷ L) [] B h = absurd h

pub run_from : (cap : ℕ) (A : List Submission) (L : List (List ℕ)) (R : List Answer) (B : List Submission) → AllowedRun cap A L R → Accepted A L R B → Run cap A L R B
run_from cap A [] [] B run h = h
run_from cap A (line ∷ L) (r ∷ R) B run h =
    let same : h.0 ≡ run.0 = Takes-unique A line r h.0 run.0 h.1 run.2 in
    (run.0, step_from cap A line run.0 r run.1 run.2, run_from cap run.0 L R B run.3 (subst (λ M. Accepted M L R B) same h.2))
run_from cap A [] (r ∷ R) B run h = absurd run
run_from cap A (line ∷ L) [] B run h = absurd run

-- ---- laws of steps

pub one_step : (cap : ℕ) (A : List Submission) (line : List ℕ) (q r : Answer) (B C : List Submission) → HaveOwnIds A → Step cap A line q B → Step cap A line r C → q ≢ Err Memory → r ≢ Err Memory → (q ≡ r) × (B ≡ C)
one_step most A line q r B C own h k no_q no_r =
    let p = step_to most A line q B h in
    let t = step_to most A line r C k in
    let same : q ≡ r = one_reply most A line q r own (reply q p.0 no_q) (reply r t.0 no_r) in
    (same, Takes-unique A line q B C p.1 (subst (λ x. Takes A line x C) (sym same) t.1))
  where
    reply : (x : Answer) → Allowed most A line x → x ≢ Err Memory → Reply most A line x
    reply x (inl h) known = h
    reply x (inr h) known = absurd (known h.0)

pub held_step : (cap : ℕ) (A : List Submission) (line : List ℕ) (s : Submission) (n : ℕ) (r : Answer) (B : List Submission) → HaveOwnIds A → Submits line s → IsNumber A n s → Step cap A line r B → r ≡ Ok n
held_step cap A line s n r B own law at h = allowed_held cap A line s n r own law at (step_to cap A line r B h).0

pub refusal_step : (cap : ℕ) (A : List Submission) (line : List ℕ) (e : Refusal) (B : List Submission) → Step cap A line (Err e) B → B ≡ A
refusal_step cap A line e B h = let p = step_to cap A line (Err e) B h in Takes-refusal cap A line e B p.0 p.1

pub named_step : (cap : ℕ) (A : List Submission) (line : List ℕ) (r : Answer) (B : List Submission) → Step cap A line r B → length (named line r) ≤ 64
named_step cap A line r B h = named_short cap A line r (step_to cap A line r B h).0

-- ---- the length that a step leaves

-- a list that stays has no more members
pub same_is_no_longer : (A B : List Submission) → B ≡ A → false ≡ nat_lt (length A) (length B)
same_is_no_longer A B same = sym (le-ltb (length A) (length B) (omega (arith, ap length same)))

-- a submission with a new id isn't held
pub not_held : (A : List Submission) (n : ℕ) (s : Submission) → IsNewId s.0 A → IsNumber A n s → ⊥
not_held A n s fresh at = subst (λ (x : Submission). x.0 ≢ s.0) (get_or_from_slice_get A at.0 s s at.2) (fresh at.0 s (slice_get_within A at.0 s at.2)) refl

-- a line that can only bring a new game, and is taken, does
pub new_grows : (cap : ℕ) (A : List Submission) (line : List ℕ) (n : ℕ) (B : List Submission) → ((s : Submission) → Submits line s → IsNewId s.0 A)
    → Step cap A line (Ok n) B → true ≡ nat_lt (length A) (length B)
new_grows cap A line n B fresh (steps.new s law _ room e f) = sym (lt-ltb (length A) (length B) (omega (arith, ap length f, length_push A s)))
new_grows cap A line n B fresh (steps.repeat s m law at e f) = absurd (not_held A m s (fresh s law) at)
new_grows cap A line n B fresh (steps.full s law _ many e f) = cc
new_grows cap A line n B fresh (steps.memory s law _ room e f) = cc
new_grows cap A line n B fresh (steps.conflict s g m law at differs e f) = cc
new_grows cap A line n B fresh (steps.refused x why e f) = cc

-- ---- laws of runs

pub distinct_ids : (cap : ℕ) (L : List (List ℕ)) (R : List Answer) (A : List Submission) → Run cap [] L R A → HaveOwnIds A
distinct_ids cap L R A run = own_ids L R A (run_to cap [] L R A run).1

pub one_run : (cap most : ℕ) (A : List Submission) (L : List (List ℕ)) (R : List Answer) (B C : List Submission) → Run cap A L R B → Run most A L R C → B ≡ C
one_run cap most A L R B C h k = Accepted-unique A L R B C (run_to cap A L R B h).1 (run_to most A L R C k).1

pub runs_join : (cap : ℕ) (A B C : List Submission) (K L : List (List ℕ)) (Q R : List Answer) → Run cap A K Q B → Run cap B L R C → Run cap A (K ++ L) (Q ++ R) C
runs_join cap A B C K L Q R h k =
    let p = run_to cap A K Q B h in
    let t = run_to cap B L R C k in
    run_from cap A _ _ C (Run-append cap A B K L Q R p.0 p.1 t.0) (Accepted-append A B C K L Q R p.1 t.1)

pub runs_number : (cap : ℕ) (L : List (List ℕ)) (R : List Answer) (A : List Submission) → Run cap [] L R A → AreNumbered (λ s n. Ok n) L R A
runs_number cap L R A run =
    let p = run_to cap [] L R A run in record {
      are = λ n s.
          let given = numbers_given cap L R A p.0 p.1 n s in (
            λ at. let g = given.0 at in (g.0, ((g.1, g.2, g.3), g.4)),
            λ h. given.1 (h.0, h.1.0.0, h.1.0.1, h.1.0.2, h.1.1),
          );
      ids = distinct_ids cap L R A run;
      repeats = λ i j n s lt was here. repeats_keep cap L R p.0 i j n was.0.0 here.0 s lt was.0.1 was.0.2 was.1 here.1 here.2;
    }

module _ (cap : ℕ) (L : List (List ℕ)) (R : List Answer) (A : List Submission) (one : OneGame L) (run : Run cap [] L R A) where
  pub takes_the_taken : Taken [] L R A
  takes_the_taken = accepts_the_taken L R A one (run_to cap [] L R A run).1

  pub has_no_conflict : All (λ r. (n : ℕ) → r ≢ Err (Conflict n)) R
  has_no_conflict = no_conflict cap L R one (run_to cap [] L R A run).0

  pub arrivals_are : (i : ℕ) (s : Submission) (r : Answer) (B : List Submission) → Arrives L i s
      → slice_get R i ≡ Some r → Run cap [] (take i L) (take i R) B
      → ((n : ℕ) × (r ≡ Ok n)) ⊎ (((r ≡ Err Full) × IsNewId s.0 B × (length B ≡ cap))
      ⊎ ((r ≡ Err Memory) × IsNewId s.0 B × (length B < cap)))
  arrivals_are i s r B here said front =
      lawful_arrives cap L R one (run_to cap [] L R A run).0 i here.0 s r here.1 here.2 said B (run_to cap [] (take i L) (take i R) B front).1

-- no submission stands twice
pub once : (cap : ℕ) (L : List (List ℕ)) (R : List Answer) (A : List Submission) → Run cap [] L R A → NoRepeats A
once cap L R A run i j d lt within e = distinct_ids cap L R A run i j d lt within (ap id_of e)

pub same_books : (T : Basis) (m n : ℕ) (K L : List (List ℕ)) (Q R : List Answer) (A B : List Submission) → Run m [] K Q A → Run n [] L R B → SameMembers A B → (least : ℕ) (E F : List Entry) → IsBook (counted T A) least E → IsBook (counted T B) least F → E ≡ F
same_books T m n K L Q R A B first second same least E F book twin =
    one_book (counted T B) least E F (same_book T A B (once m K Q A first) (once n L R B second) same least E book) twin
