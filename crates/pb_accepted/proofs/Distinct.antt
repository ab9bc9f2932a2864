-- The distinct submissions, and what is held where no id names two games.
use Rattle.std.proofs.Common.{zero, suc, ◌≡◌, ◌≢◌, ℕ, ◌+◌, ◌<◌, ◌≤◌, ◌⊎◌, List, [], ◌∷◌, length, take, Some, None, slice_get, get_or, Ok, Err, All, Contains, refl, sym, ap, subst, ◌∙◌, inl, inr, arith}
use Rattle.std.specs.List.{AllByRecursion}
use Rattle.std.proofs.lemmas.List.{get_or_default}
use Rattle.std.proofs.lemmas.List.Elements.{All-from_recursion, Contains-get_or, Contains-append_right, Contains-push_cases}
use Rattle.std.proofs.lemmas.List.Quantifiers.{all_pairs_push}
use Rattle.std.proofs.lemmas.Option.{slice_get_within, get_or_from_slice_get}
use Rattle.pb_games.specs.declared.refusal.Refusal.{Refusal}
use Rattle.pb_games.specs.declared.refusal.Refusal.TheVariants.{Conflict, Full, Memory}
use Rattle.pb_games.specs.Submissions.{Submission, Submits}
use Rattle.pb_games.specs.Refusing.{Refuses}
use Rattle.pb_games.proofs.Refused as refused
use Rattle.pb_accepted.specs.Accepting.{Answer, Adds, Taken, OneGame, NoRepeats}
use Rattle.pb_accepted.specs.Replying.{IsNumber, IsNewId}
use Rattle.pb_accepted.proofs.Allowing.{Accepted, Allowed, AllowedRun, Answers, Takes}
use Rattle.pb_accepted.proofs.Replies.{Answered, answered, held, new, other, full, id_of, game_of, one_submission, Adds-unique, Takes-unique, room-Takes}
use Rattle.pb_accepted.proofs.Runs.{Along-keeps, Along-unique}

-- ---- the distinct submissions

-- a submission is new where the list doesn't have it
abbrev AddsAbsent : List Submission → List ℕ → Answer → List Submission → Type 0
AddsAbsent = Adds (λ A s. ¬ Contains A s)

pub Taken-unique : (A : List Submission) (L : List (List ℕ)) (R : List Answer) (B C : List Submission) → Taken A L R B → Taken A L R C → B ≡ C
Taken-unique = Along-unique AddsAbsent (Adds-unique (λ A s. ¬ Contains A s))

-- one that isn't in the list differs from each that is
absent_differs : (A : List Submission) (s : Submission) → (Contains A s → ⊥) → All (λ t. t ≢ s) A
absent_differs A s absent k d lt e = absent (k, lt, within e)
  where
    within : get_or A k d ≡ s → get_or A k s ≡ s
    within h = get_or_default A k s d lt ∙ h

NoRepeats-Adds : (A : List Submission) (line : List ℕ) (r : Answer) (M : List Submission) → AddsAbsent A line r M → NoRepeats A → NoRepeats M
NoRepeats-Adds A line r M (inl h) once = subst NoRepeats (sym h.4) (all_pairs_push (λ s t. s ≢ t) A h.0 once (absent_differs A h.0 h.2))
NoRepeats-Adds A line r M (inr h) once = subst NoRepeats (sym h.1) once

NoRepeats-nil : NoRepeats {X = Submission} []
NoRepeats-nil i j d lt within = absurd (omega (arith, within))

pub no_repeats : (L : List (List ℕ)) (R : List Answer) (S : List Submission) → Taken [] L R S → NoRepeats S
no_repeats L R S h = Along-keeps AddsAbsent NoRepeats NoRepeats-Adds [] L R S h NoRepeats-nil

-- ---- where no id names two games

-- each submission of the list is what a line of L submits under its id
abbrev Agree : List Submission → List (List ℕ) → Type 0
Agree A L = (s t : Submission) (c : List ℕ) → Contains A s → Contains L c → Submits c t → s.0 ≡ t.0 → s ≡ t

Agree-nil : (L : List (List ℕ)) → Agree [] L
Agree-nil L s t c h = absurd (omega (arith, h.1))

Contains-head : {X : Type 0} (x : X) (xs : List X) → Contains (x ∷ xs) x
Contains-head x xs = Contains-get_or (x ∷ xs) 0 x (omega arith)

OneGame-tail : (line : List ℕ) (L : List (List ℕ)) → OneGame (line ∷ L) → OneGame L
OneGame-tail line L one b c s t hb hc = one b c s t (Contains-append_right (line ∷ []) L b hb) (Contains-append_right (line ∷ []) L c hc)

Agree-Takes : (A : List Submission) (line : List ℕ) (L : List (List ℕ)) (r : Answer) (M : List Submission) → OneGame (line ∷ L) → Agree A (line ∷ L) → Takes A line r M → Agree M L
Agree-Takes A line L r M one agree (inl h) s t c hs hc law e =
    elim (Contains-push_cases A h.0 s (subst (λ X. Contains X s) h.4 hs)) [
      | inl old ↦ agree s t c old (Contains-append_right (line ∷ []) L c hc) law e
      | inr last ↦ one line c s t (Contains-head line L) (Contains-append_right (line ∷ []) L c hc) (subst (Submits line) last h.1) law e
    ]
Agree-Takes A line L r M one agree (inr h) s t c hs hc law e =
    agree s t c (subst (λ X. Contains X s) h.1 hs) (Contains-append_right (line ∷ []) L c hc) law e

-- a submission that isn't in the list has a new id
new_id : (A : List Submission) (line : List ℕ) (L : List (List ℕ)) (t : Submission) → Agree A (line ∷ L) → Submits line t → (Contains A t → ⊥) → IsNewId t.0 A
new_id A line L t agree law absent k d lt e =
    let here = Contains-get_or A k d lt in
    absent (subst (Contains A) (agree (get_or A k d) t line here (Contains-head line L) law e) here)

Adds-Takes : (A : List Submission) (line : List ℕ) (L : List (List ℕ)) (r : Answer) (M : List Submission) → Agree A (line ∷ L) → Takes A line r M → AddsAbsent A line r M
Adds-Takes A line L r M agree (inl h) = inl (h.0, h.1, (λ had. h.2 had.0 h.0 had.1 (ap id_of had.2)), h.3, h.4)
Adds-Takes A line L r M agree (inr h) = inr ((λ t law absent room. h.0 t law (new_id A line L t agree law absent) room), h.1)

Taken-Accepted : (A : List Submission) (L : List (List ℕ)) (R : List Answer) (B : List Submission) → OneGame L → Agree A L → Accepted A L R B → Taken A L R B
Taken-Accepted A [] [] B one agree h = h
Taken-Accepted A (line ∷ L) (r ∷ R) B one agree h =
    (h.0, Adds-Takes A line L r h.0 agree h.1, Taken-Accepted h.0 L R B (OneGame-tail line L one) (Agree-Takes A line L r h.0 one agree h.1) h.2)
Taken-Accepted A [] (r ∷ R) B one agree h = absurd h
Taken-Accepted A (line ∷ L) [] B one agree h = absurd h

pub accepts_the_taken : (L : List (List ℕ)) (R : List Answer) (A : List Submission) → OneGame L → Accepted [] L R A → Taken [] L R A
accepts_the_taken L R A one h = Taken-Accepted [] L R A one (Agree-nil L) h

-- ---- answers

-- what a lawful line is answered, at a list that agrees with it
abbrev Arrives : ℕ → List Submission → Submission → Answer → Type 0
Arrives cap A s r = ((n : ℕ) × (r ≡ Ok n)) ⊎ (((r ≡ Err Full) × IsNewId s.0 A × (length A ≡ cap)) ⊎ ((r ≡ Err Memory) × IsNewId s.0 A × (length A < cap)))

Contains-number : (A : List Submission) (n : ℕ) (s : Submission) → IsNumber A n s → Contains A s
Contains-number A n s h = (h.0, slice_get_within A h.0 s h.2, get_or_from_slice_get A h.0 s s h.2)

answered_arrival : (cap : ℕ) (A : List Submission) (line : List ℕ) (L : List (List ℕ)) (s : Submission) (r : Answer)
    → length A ≤ cap → Agree A (line ∷ L) → Submits line s → Answered cap A s r → Arrives cap A s r
answered_arrival cap A line L s r few agree law (held n e at) = inl (n, e)
answered_arrival cap A line L s r few agree law (new e fresh room) = inl (length A + 1, e)
answered_arrival cap A line L s r few agree law (other n g e at differs) =
    absurd (differs (ap game_of (agree (s.0, g) s line (Contains-number A n (s.0, g) at) (Contains-head line L) law refl)))
answered_arrival cap A line L s r few agree law (full e fresh many) = inr (inl (e, fresh, omega (arith, few, many)))

-- want of memory is answered where the reply is the next number
memory_arrival : (cap : ℕ) (A : List Submission) (s : Submission) → Answers cap A s (Ok (length A + 1)) → IsNewId s.0 A × (length A < cap)
memory_arrival cap A s (inl at) = absurd (omega (arith, slice_get_within A at.0 s at.2, at.1))
memory_arrival cap A s (inr h) = (h.0, h.1)

arrival : (cap : ℕ) (A : List Submission) (line : List ℕ) (L : List (List ℕ)) (s : Submission) (r : Answer)
    → length A ≤ cap → Agree A (line ∷ L) → Submits line s → Allowed cap A line r → Arrives cap A s r
arrival cap A line L s r few agree law (inl (inl h)) =
    answered_arrival cap A line L s r few agree law (answered cap A s r (subst (λ t. Answers cap A t r) (one_submission line h.0 s h.1 law) h.2))
arrival cap A line L s r few agree law (inl (inr h)) = absurd (refused.unlawful line h.0 s h.2 law)
arrival cap A line L s r few agree law (inr (e, inl h)) =
    let new_one = memory_arrival cap A s (subst (λ t. Answers cap A t (Ok (length A + 1))) (one_submission line h.0 s h.1 law) h.2) in
    inr (inr (e, new_one.0, new_one.1))
arrival cap A line L s r few agree law (inr (e, inr h)) = absurd (refused.unlawful line h.0 s h.2 law)

arrivals : (cap : ℕ) (A : List Submission) (L : List (List ℕ)) (R : List Answer) → length A ≤ cap → OneGame L → Agree A L → AllowedRun cap A L R
    → (i : ℕ) (line : List ℕ) (s : Submission) (r : Answer) → slice_get L i ≡ Some line → Submits line s → slice_get R i ≡ Some r
    → (B : List Submission) → Accepted A (take i L) (take i R) B → Arrives cap B s r
arrivals cap A [] [] few one agree run i line s r here law said B accepted = let none : None ≡ Some line = here in cc
arrivals cap A (b ∷ L) (q ∷ R) few one agree run zero line s r here law said B accepted =
    let e : Some b ≡ Some line = here in
    let same : b ≡ line = cc in
    let f : Some q ≡ Some r = said in
    let answer : q ≡ r = cc in
    subst (λ x. Arrives cap B s x) answer (subst (λ X. Arrives cap X s q) (sym accepted) (arrival cap A b L s q few agree (subst (λ x. Submits x s) (sym same) law) run.1))
arrivals cap A (b ∷ L) (q ∷ R) few one agree run (suc i) line s r here law said B accepted =
    let same = Takes-unique A b q accepted.0 run.0 accepted.1 run.2 in
    arrivals cap run.0 L R (room-Takes cap A b q run.0 few run.1 run.2) (OneGame-tail b L one) (Agree-Takes A b L q run.0 one agree run.2) run.3
    i line s r here law said B (subst (λ M. Accepted M (take i L) (take i R) B) same accepted.2)
arrivals cap A [] (q ∷ R) few one agree run i line s r here law said B accepted = absurd run
arrivals cap A (b ∷ L) [] few one agree run i line s r here law said B accepted = absurd run

pub lawful_arrives : (cap : ℕ) (L : List (List ℕ)) (R : List Answer) → OneGame L → AllowedRun cap [] L R
    → (i : ℕ) (line : List ℕ) (s : Submission) (r : Answer) → slice_get L i ≡ Some line → Submits line s → slice_get R i ≡ Some r
    → (A : List Submission) → Accepted [] (take i L) (take i R) A
    → ((n : ℕ) × (r ≡ Ok n)) ⊎ (((r ≡ Err Full) × IsNewId s.0 A × (length A ≡ cap)) ⊎ ((r ≡ Err Memory) × IsNewId s.0 A × (length A < cap)))
lawful_arrives cap L R one run i line s r here law said A accepted = arrivals cap [] L R (omega arith) one (Agree-nil L) run i line s r here law said A accepted

-- ---- conflicts

abbrev IsNoConflict : Answer → Type 0
IsNoConflict r = (n : ℕ) → r ≢ Err (Conflict n)

arrives_clear : (cap : ℕ) (A : List Submission) (s : Submission) (r : Answer) → Arrives cap A s r → IsNoConflict r
arrives_clear cap A s r (inl h) n e = let f : r ≡ Ok h.0 = h.1 in cc
arrives_clear cap A s r (inr (inl h)) n e = let f : r ≡ Err Full = h.0 in cc
arrives_clear cap A s r (inr (inr h)) n e = let f : r ≡ Err Memory = h.0 in cc

refused_clear : (line : List ℕ) (e : Refusal) → Refuses line e → IsNoConflict (Err e)
refused_clear line e h n q = let same : e ≡ Conflict n = cc in (subst (Refuses line) same h).due

allowed_clear : (cap : ℕ) (A : List Submission) (line : List ℕ) (L : List (List ℕ)) (r : Answer) → length A ≤ cap → Agree A (line ∷ L) → Allowed cap A line r → IsNoConflict r
allowed_clear cap A line L r few agree (inl (inl h)) = arrives_clear cap A h.0 r (arrival cap A line L h.0 r few agree h.1 (inl (inl h)))
allowed_clear cap A line L r few agree (inl (inr h)) = subst IsNoConflict (sym h.1) (refused_clear line h.0 h.2)
allowed_clear cap A line L r few agree (inr h) = λ n e. let q : r ≡ Err Memory = h.0 in cc

no_conflicts : (cap : ℕ) (A : List Submission) (L : List (List ℕ)) (R : List Answer) → length A ≤ cap → OneGame L → Agree A L → AllowedRun cap A L R → AllByRecursion IsNoConflict R
no_conflicts cap A [] [] few one agree run = tt
no_conflicts cap A (line ∷ L) (r ∷ R) few one agree run =
    (allowed_clear cap A line L r few agree run.1, no_conflicts cap run.0 L R (room-Takes cap A line r run.0 few run.1 run.2) (OneGame-tail line L one) (Agree-Takes A line L r run.0 one agree run.2) run.3)
no_conflicts cap A [] (r ∷ R) few one agree run = absurd run
no_conflicts cap A (line ∷ L) [] few one agree run = absurd run

pub no_conflict : (cap : ℕ) (L : List (List ℕ)) (R : List Answer) → OneGame L → AllowedRun cap [] L R → All (λ r. (n : ℕ) → r ≢ Err (Conflict n)) R
no_conflict cap L R one run = All-from_recursion IsNoConflict R (no_conflicts cap [] L R (omega arith) one (Agree-nil L) run)
