-- Whole runs, line by line.
use Rattle.std.proofs.Common.{◌≡◌, ℕ, List, [], ◌∷◌, ◌++◌, sym, subst, ◌∙◌, arith}
use Rattle.pb_games.specs.Submissions.{Submission}
use Rattle.pb_accepted.specs.Accepting.{Answer, Along}
use Rattle.pb_accepted.specs.Replying.{HaveOwnIds}
use Rattle.pb_accepted.proofs.Allowing.{Accepted, AllowedRun, Takes}
use Rattle.pb_accepted.proofs.Replies.{Takes-unique, HaveOwnIds-Takes}

-- ---- steps

-- what each step keeps stays
pub Along-keeps : (Step : List Submission → List ℕ → Answer → List Submission → Type 0) (P : List Submission → Type 0)
    → ((A : List Submission) (line : List ℕ) (r : Answer) (B : List Submission) → Step A line r B → P A → P B)
    → (A : List Submission) (L : List (List ℕ)) (R : List Answer) (B : List Submission) → Along Step A L R B → P A → P B
Along-keeps Step P keeps A [] [] B h p = subst P (sym h) p
Along-keeps Step P keeps A (line ∷ L) (r ∷ R) B h p = Along-keeps Step P keeps h.0 L R B h.2 (keeps A line r h.0 h.1 p)
Along-keeps Step P keeps A [] (r ∷ R) B h p = absurd h
Along-keeps Step P keeps A (line ∷ L) [] B h p = absurd h

-- where each step leaves one list, so do all
pub Along-unique : (Step : List Submission → List ℕ → Answer → List Submission → Type 0)
    → ((A : List Submission) (line : List ℕ) (r : Answer) (B C : List Submission) → Step A line r B → Step A line r C → B ≡ C)
    → (A : List Submission) (L : List (List ℕ)) (R : List Answer) (B C : List Submission) → Along Step A L R B → Along Step A L R C → B ≡ C
Along-unique Step one A [] [] B C h k = h ∙ sym k
Along-unique Step one A (line ∷ L) (r ∷ R) B C h k =
    Along-unique Step one h.0 L R B C h.2 (subst (λ M. Along Step M L R C) (sym (one A line r h.0 k.0 h.1 k.1)) k.2)
Along-unique Step one A [] (r ∷ R) B C h k = absurd h
Along-unique Step one A (line ∷ L) [] B C h k = absurd h

-- ---- what is accepted

pub HaveOwnIds-nil : HaveOwnIds []
HaveOwnIds-nil i j d lt within = absurd (omega (arith, within))

pub own_ids : (L : List (List ℕ)) (R : List Answer) (A : List Submission) → Accepted [] L R A → HaveOwnIds A
own_ids L R A h = Along-keeps Takes HaveOwnIds HaveOwnIds-Takes [] L R A h HaveOwnIds-nil

pub Accepted-unique : (A : List Submission) (L : List (List ℕ)) (R : List Answer) (B C : List Submission) → Accepted A L R B → Accepted A L R C → B ≡ C
Accepted-unique = Along-unique Takes Takes-unique

-- ---- runs that go on

pub Run-append : (cap : ℕ) (A B : List Submission) (K L : List (List ℕ)) (Q R : List Answer)
    → AllowedRun cap A K Q → Accepted A K Q B → AllowedRun cap B L R → AllowedRun cap A (K ++ L) (Q ++ R)
Run-append cap A B [] L [] R run accepted more = subst (λ X. AllowedRun cap X L R) accepted more
Run-append cap A B (line ∷ K) L (q ∷ Q) R run accepted more =
    let same = Takes-unique A line q accepted.0 run.0 accepted.1 run.2 in
    (run.0, run.1, run.2, Run-append cap run.0 B K L Q R run.3 (subst (λ M. Accepted M K Q B) same accepted.2) more)
Run-append cap A B [] L (q ∷ Q) R run accepted more = absurd run
Run-append cap A B (line ∷ K) L [] R run accepted more = absurd run

pub Accepted-append : (A B C : List Submission) (K L : List (List ℕ)) (Q R : List Answer)
    → Accepted A K Q B → Accepted B L R C → Accepted A (K ++ L) (Q ++ R) C
Accepted-append A B C [] L [] R accepted more = subst (λ X. Accepted X L R C) accepted more
Accepted-append A B C (line ∷ K) L (q ∷ Q) R accepted more = (accepted.0, accepted.1, Accepted-append accepted.0 B C K L Q R accepted.2 more)
Accepted-append A B C [] L (q ∷ Q) R accepted more = absurd accepted
Accepted-append A B C (line ∷ K) L [] R accepted more = absurd accepted
