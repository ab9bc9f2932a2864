-- A step by what may be answered and what the list then becomes, each by itself. Proofs go by these
-- two.
use Rattle.std.specs.Prelude.{◌≡◌, ◌≢◌, ℕ, ◌+◌, ◌<◌, ◌≤◌, ◌⊎◌, List, [], ◌∷◌, length, Ok, Err}
use Rattle.pb_games.specs.declared.game.Game.{Game}
use Rattle.pb_games.specs.declared.refusal.Refusal.{Refusal}
use Rattle.pb_games.specs.declared.refusal.Refusal.TheVariants.{Conflict, Full, Memory}
use Rattle.pb_games.specs.Submissions.{Submission, Submits}
use Rattle.pb_games.specs.Refusing.{Refuses}
use Rattle.pb_accepted.specs.Accepting.{Adds, Along, Answer}
use Rattle.pb_accepted.specs.Replying.{IsNewId, IsNumber}

-- the answer to a lawful submission, where the list may have at most cap members
abbrev pub Answers : ℕ → List Submission → Submission → Answer → Type 0
Answers cap A s (Ok n) = IsNumber A n s ⊎ (IsNewId s.0 A × (length A < cap) × (n ≡ length A + 1))
Answers cap A s (Err (Conflict n)) = (g : Game) × IsNumber A n (s.0, g) × (g ≢ s.1)
Answers cap A s (Err Full) = IsNewId s.0 A × (cap ≤ length A)
Answers cap A s (Err e) = ⊥

-- the answer to a line: what the list says of its submission, or else the refusal of the line by
-- itself
abbrev pub Reply : ℕ → List Submission → List ℕ → Answer → Type 0
Reply cap A line r = ((s : Submission) × Submits line s × Answers cap A s r) ⊎ ((e : Refusal) × (r ≡ Err e) × Refuses line e)

-- the answers that are allowed: the reply, or want of memory where the reply is a new number
abbrev pub Allowed : ℕ → List Submission → List ℕ → Answer → Type 0
Allowed cap A line r = Reply cap A line r ⊎ ((r ≡ Err Memory) × Reply cap A line (Ok (length A + 1)))

-- a ledger takes what has a new id
abbrev pub Takes : List Submission → List ℕ → Answer → List Submission → Type 0
Takes = Adds (λ A s. IsNewId s.0 A)

-- B is what lines with their answers make of A, one after another
abbrev pub Accepted : List Submission → List (List ℕ) → List Answer → List Submission → Type 0
Accepted = Along Takes

-- each answer is allowed at the list as it then is
abbrev pub AllowedRun : ℕ → List Submission → List (List ℕ) → List Answer → Type 0
AllowedRun cap A [] [] = Unit {0}
AllowedRun cap A (line ∷ L) (r ∷ R) = (M : List Submission) × Allowed cap A line r × Takes A line r M × AllowedRun cap M L R
AllowedRun cap A L R = ⊥
