-- What a run holds: submissions within their bounds, and no more than there may be.
use Rattle.std.proofs.Common.{ℕ, ◌≤◌, List, [], ◌∷◌, All, length, sym, subst, inl, inr, arith}
use Rattle.std.proofs.lemmas.List.Elements.{All-append, All-cons, All-nil}
use Rattle.pb_games.specs.Submissions.{IsSubmission, Submission}
use Rattle.pb_accepted.specs.Accepting.{Answer, Run, Step}
use Rattle.pb_accepted.proofs.Arrivals.{submitted}
use Rattle.pb_accepted.proofs.Replies.{room-Takes}
use Rattle.pb_accepted.proofs.Runs.{Along-keeps}
use Rattle.pb_accepted.proofs.Steps.{step_to}

-- a step from a list that fits leaves one that fits
room_step : (cap : ℕ) (A : List Submission) (line : List ℕ) (r : Answer) (B : List Submission) → Step cap A line r B → length A ≤ cap → length B ≤ cap
room_step most A line r B h few = let both = step_to most A line r B h in room-Takes most A line r B few both.0 both.1

-- what is held are submissions within their bounds
adds_lawful : (cap : ℕ) (A : List Submission) (line : List ℕ) (r : Answer) (B : List Submission) → Step cap A line r B → All IsSubmission A → All IsSubmission B
adds_lawful most A line r B h games = elim (step_to most A line r B h).1 [
  | inl adds ↦ subst (All IsSubmission) (sym adds.4) (All-append IsSubmission A (adds.0 ∷ []) games (All-cons IsSubmission adds.0 [] (submitted line adds.0 adds.1) (All-nil IsSubmission)))
  | inr keeps ↦ subst (All IsSubmission) (sym keeps.1) games
]

pub are_submissions : (cap : ℕ) (L : List (List ℕ)) (R : List Answer) (A : List Submission) → Run cap [] L R A → All IsSubmission A
are_submissions most L R A h = Along-keeps (Step most) (All IsSubmission) (adds_lawful most) [] L R A h (All-nil IsSubmission)

-- and no more than there may be
pub has_room : (cap : ℕ) (L : List (List ℕ)) (R : List Answer) (A : List Submission) → Run cap [] L R A → length A ≤ cap
has_room most L R A h = Along-keeps (Step most) (λ (X : List Submission). length X ≤ most) (room_step most) [] L R A h (omega arith)
