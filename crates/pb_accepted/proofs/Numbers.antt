-- The numbers of what is held, over whole runs.
use Rattle.std.proofs.Common.{zero, suc, ◌≡◌, ℕ, ◌+◌, ◌<◌, ◌⊎◌, ◌↔◌, List, [], ◌∷◌, ◌++◌, length, Some, None, slice_get, Ok, Err, sym, ap, subst, ◌∙◌, refl, inl, inr, arith}
use Rattle.pb_games.specs.declared.refusal.Refusal.TheVariants.{Memory}
use Rattle.pb_games.specs.Submissions.{Submission, Submits}
use Rattle.pb_games.proofs.Refused as refused
use Rattle.pb_accepted.specs.Accepting.{Answer}
use Rattle.pb_accepted.specs.Replying.{IsNumber}
use Rattle.pb_accepted.specs.Replying.{HaveOwnIds}
use Rattle.pb_accepted.proofs.Allowing.{Accepted, Allowed, AllowedRun, Answers, Takes}
use Rattle.pb_accepted.proofs.Replies.{one_submission, allowed_held, new_is_next, HaveOwnIds-Takes, Takes-unique}
use Rattle.pb_accepted.proofs.Runs.{Along-keeps, HaveOwnIds-nil}

-- ---- lists

slice_get-append_left : {X : Type 0} (xs ys : List X) (k : ℕ) (x : X) → slice_get xs k ≡ Some x → slice_get (xs ++ ys) k ≡ Some x
slice_get-append_left [] ys k x h = let no : None ≡ Some x = h in cc
slice_get-append_left (y ∷ xs) ys zero x h = h
slice_get-append_left (y ∷ xs) ys (suc k) x h = slice_get-append_left xs ys k x h

pub slice_get-push : {X : Type 0} (xs : List X) (x : X) → slice_get (xs ++ x ∷ []) (length xs) ≡ Some x
slice_get-push [] x = refl
slice_get-push (y ∷ xs) x = slice_get-push xs x

-- what stands in a list with one more stood there, or is the one
slice_get-push_cases : {X : Type 0} (xs : List X) (x : X) (k : ℕ) (y : X) → slice_get (xs ++ x ∷ []) k ≡ Some y → (slice_get xs k ≡ Some y) ⊎ ((k ≡ length xs) × (x ≡ y))
slice_get-push_cases [] x zero y h = let e : Some x ≡ Some y = h in let same : x ≡ y = cc in inr (refl, same)
slice_get-push_cases [] x (suc k) y h = let no : None ≡ Some y = h in cc
slice_get-push_cases (z ∷ xs) x zero y h = inl h
slice_get-push_cases (z ∷ xs) x (suc k) y h = elim (slice_get-push_cases xs x k y h) [
  | inl old ↦ inl old
  | inr last ↦ inr (ap suc last.0, last.1)
]

-- ---- one line

-- numbers stay
IsNumber-Takes : (A : List Submission) (line : List ℕ) (r : Answer) (M : List Submission) (n : ℕ) (s : Submission) → Takes A line r M → IsNumber A n s → IsNumber M n s
IsNumber-Takes A line r M n s (inl h) at = (at.0, at.1, subst (λ X. slice_get X at.0 ≡ Some s) (sym h.4) (slice_get-append_left A (h.0 ∷ []) at.0 s at.2))
IsNumber-Takes A line r M n s (inr h) at = subst (λ X. IsNumber X n s) (sym h.1) at

pub IsNumber-Accepted : (A : List Submission) (L : List (List ℕ)) (R : List Answer) (B : List Submission) (n : ℕ) (s : Submission) → Accepted A L R B → IsNumber A n s → IsNumber B n s
IsNumber-Accepted A L R B n s h at = Along-keeps Takes (λ X. IsNumber X n s) (λ X line r M taken here. IsNumber-Takes X line r M n s taken here) A L R B h at

-- a submission that was just answered with a number has it
number_after : (cap : ℕ) (A : List Submission) (line : List ℕ) (s : Submission) (n : ℕ) (M : List Submission) → Submits line s → Answers cap A s (Ok n) → Takes A line (Ok n) M → IsNumber M n s
number_after cap A line s n M law (inl h) taken = IsNumber-Takes A line (Ok n) M n s taken h
number_after cap A line s n M law (inr h) (inl t) =
    (length A, h.2, subst (λ X. slice_get X (length A) ≡ Some s) (sym (t.4 ∙ ap (λ u. A ++ u ∷ []) (one_submission line t.0 s t.1 law))) (slice_get-push A s))
number_after cap A line s n M law (inr h) (inr t) = absurd (t.0 s law h.0 ((λ e. cc), (λ e. cc)))

pub number_taken : (cap : ℕ) (A : List Submission) (line : List ℕ) (s : Submission) (n : ℕ) (M : List Submission) → Submits line s → Allowed cap A line (Ok n) → Takes A line (Ok n) M → IsNumber M n s
number_taken cap A line s n M law (inl (inl h)) t = number_after cap A line s n M law (subst (λ u. Answers cap A u (Ok n)) (one_submission line h.0 s h.1 law) h.2) t
number_taken cap A line s n M law (inl (inr h)) t = absurd (refused.unlawful line h.0 s h.2 law)
number_taken cap A line s n M law (inr h) t = let e : Ok n ≡ Err Memory = h.0 in cc

-- ---- repeats

later : (cap : ℕ) (A : List Submission) (L : List (List ℕ)) (R : List Answer) → AllowedRun cap A L R → HaveOwnIds A → (n : ℕ) (s : Submission) → IsNumber A n s
    → (j : ℕ) (c : List ℕ) → slice_get L j ≡ Some c → Submits c s → slice_get R j ≡ Some (Ok n)
later cap A [] [] run own n s at j c here law = let no : None ≡ Some c = here in cc
later cap A (line ∷ L) (r ∷ R) run own n s at zero c here law =
    let e : Some line ≡ Some c = here in
    let same : line ≡ c = cc in
    ap (λ x. Some x) (allowed_held cap A line s n r own (subst (λ x. Submits x s) (sym same) law) at run.1)
later cap A (line ∷ L) (r ∷ R) run own n s at (suc j) c here law =
    later cap run.0 L R run.3 (HaveOwnIds-Takes A line r run.0 run.2 own) n s (IsNumber-Takes A line r run.0 n s run.2 at) j c here law
later cap A [] (r ∷ R) run own n s at j c here law = absurd run
later cap A (line ∷ L) [] run own n s at j c here law = absurd run

-- what a line at the head of a run was answered, it has
head_number : (cap : ℕ) (A : List Submission) (line : List ℕ) (r : Answer) (M : List Submission) (b : List ℕ) (s : Submission) (n : ℕ)
    → Allowed cap A line r → Takes A line r M → Some line ≡ Some b → Submits b s → Some r ≡ Some (Ok n) → IsNumber M n s
head_number cap A line r M b s n allowed taken e law f =
    let same : line ≡ b = cc in
    let answer : r ≡ Ok n = cc in
    number_taken cap A line s n M (subst (λ x. Submits x s) (sym same) law) (subst (Allowed cap A line) answer allowed) (subst (λ x. Takes A line x M) answer taken)

pub repeats : (cap : ℕ) (A : List Submission) (L : List (List ℕ)) (R : List Answer) → AllowedRun cap A L R → HaveOwnIds A
    → (i j n : ℕ) (b c : List ℕ) (s : Submission) → i < j → slice_get L i ≡ Some b → Submits b s → slice_get R i ≡ Some (Ok n) → slice_get L j ≡ Some c → Submits c s → slice_get R j ≡ Some (Ok n)
repeats cap A [] [] run own i j n b c s lt first law said here again = let no : None ≡ Some b = first in cc
repeats cap A (line ∷ L) (r ∷ R) run own i zero n b c s lt first law said here again = absurd (omega (arith, lt))
repeats cap A (line ∷ L) (r ∷ R) run own zero (suc j) n b c s lt first law said here again =
    later cap run.0 L R run.3 (HaveOwnIds-Takes A line r run.0 run.2 own) n s (head_number cap A line r run.0 b s n run.1 run.2 first law said) j c here again
repeats cap A (line ∷ L) (r ∷ R) run own (suc i) (suc j) n b c s lt first law said here again =
    repeats cap run.0 L R run.3 (HaveOwnIds-Takes A line r run.0 run.2 own) i j n b c s (omega (arith, lt)) first law said here again
repeats cap A [] (r ∷ R) run own i j n b c s lt first law said here again = absurd run
repeats cap A (line ∷ L) [] run own i j n b c s lt first law said here again = absurd run

-- ---- the numbers that were given

abbrev Given : List (List ℕ) → List Answer → ℕ → Submission → Type 0
Given L R n s = (j : ℕ) × (line : List ℕ) × (slice_get L j ≡ Some line) × Submits line s × (slice_get R j ≡ Some (Ok n))

-- what was answered is a number in the end
given_number : (cap : ℕ) (A : List Submission) (L : List (List ℕ)) (R : List Answer) (B : List Submission) → AllowedRun cap A L R → Accepted A L R B
    → (n j : ℕ) (b : List ℕ) (s : Submission) → slice_get L j ≡ Some b → Submits b s → slice_get R j ≡ Some (Ok n) → IsNumber B n s
given_number cap A [] [] B run accepted n j b s here law said = let no : None ≡ Some b = here in cc
given_number cap A (line ∷ L) (r ∷ R) B run accepted n zero b s here law said =
    IsNumber-Accepted accepted.0 L R B n s accepted.2 (head_number cap A line r accepted.0 b s n run.1 accepted.1 here law said)
given_number cap A (line ∷ L) (r ∷ R) B run accepted n (suc j) b s here law said =
    let same = Takes-unique A line r run.0 accepted.0 run.2 accepted.1 in
    given_number cap accepted.0 L R B (subst (λ M. AllowedRun cap M L R) same run.3) accepted.2 n j b s here law said
given_number cap A [] (r ∷ R) B run accepted n j b s here law said = absurd run
given_number cap A (line ∷ L) [] B run accepted n j b s here law said = absurd run

-- a number after one line stood before, or was answered
number_before : (cap : ℕ) (A : List Submission) (line : List ℕ) (r : Answer) (M : List Submission) (n : ℕ) (s : Submission) → Allowed cap A line r → Takes A line r M → IsNumber M n s
    → IsNumber A n s ⊎ (Submits line s × (r ≡ Ok n))
number_before cap A line r M n s allowed (inr t) at = inl (subst (λ X. IsNumber X n s) t.1 at)
number_before cap A line r M n s allowed (inl t) at = by (slice_get-push_cases A t.0 at.0 s (subst (λ X. slice_get X at.0 ≡ Some s) t.4 at.2))
  where
    by : (slice_get A at.0 ≡ Some s) ⊎ ((at.0 ≡ length A) × (t.0 ≡ s)) → IsNumber A n s ⊎ (Submits line s × (r ≡ Ok n))
    by (inl old) = inl (at.0, at.1, old)
    by (inr last) =
        let number : length A + 1 ≡ n = omega (arith, last.0, at.1) in
        inr (subst (Submits line) last.1 t.1, (new_is_next cap A line t.0 r t.1 t.2 t.3 allowed).0 ∙ ap (λ m. Ok m) number)

-- each number stood there at first, or was given
number_given : (cap : ℕ) (A : List Submission) (L : List (List ℕ)) (R : List Answer) (B : List Submission) → AllowedRun cap A L R → Accepted A L R B
    → (n : ℕ) (s : Submission) → IsNumber B n s → IsNumber A n s ⊎ Given L R n s
number_given cap A [] [] B run accepted n s at = inl (subst (λ X. IsNumber X n s) accepted at)
number_given cap A (line ∷ L) (r ∷ R) B run accepted n s at =
    let same = Takes-unique A line r run.0 accepted.0 run.2 accepted.1 in
    elim (number_given cap accepted.0 L R B (subst (λ M. AllowedRun cap M L R) same run.3) accepted.2 n s at) [
      | inl here ↦ elim (number_before cap A line r accepted.0 n s run.1 accepted.1 here) [
        | inl old ↦ inl old
        | inr now ↦ inr (zero, line, refl, now.0, ap (λ x. Some x) now.1)
      ]
      | inr after ↦ inr (suc after.0, after.1, after.2, after.3, after.4)
    ]
number_given cap A [] (r ∷ R) B run accepted n s at = absurd run
number_given cap A (line ∷ L) [] B run accepted n s at = absurd run

pub numbers_given : (cap : ℕ) (L : List (List ℕ)) (R : List Answer) (A : List Submission) → AllowedRun cap [] L R → Accepted [] L R A → (n : ℕ) (s : Submission)
    → IsNumber A n s ↔ ((j : ℕ) × (line : List ℕ) × (slice_get L j ≡ Some line) × Submits line s × (slice_get R j ≡ Some (Ok n)))
numbers_given cap L R A run accepted n s = (to, λ g. given_number cap [] L R A run accepted n g.0 g.1 s g.2 g.3 g.4)
  where
    to : IsNumber A n s → Given L R n s
    to at = elim (number_given cap [] L R A run accepted n s at) [
      | inl none ↦ let no : None ≡ Some s = none.2 in cc
      | inr given ↦ given
    ]

pub repeats_keep : (cap : ℕ) (L : List (List ℕ)) (R : List Answer) → AllowedRun cap [] L R
    → (i j n : ℕ) (b c : List ℕ) (s : Submission) → i < j → slice_get L i ≡ Some b → Submits b s → slice_get R i ≡ Some (Ok n) → slice_get L j ≡ Some c → Submits c s → slice_get R j ≡ Some (Ok n)
repeats_keep cap L R run = repeats cap [] L R run HaveOwnIds-nil
