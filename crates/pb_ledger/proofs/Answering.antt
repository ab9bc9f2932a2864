-- A line and its answer: what it leads to, and how many games it adds.
use Rattle.std.proofs.Common.{◌≡◌, ℕ, ◌+◌, Bool, true, false, nat_lt, List, [], ◌∷◌, length, Option, None, Some, Bor, Result, Ok, Err, refl, sym, ap, subst, ◌∙◌, arith, inl, inr}
use Rattle.std.specs.Prelude.{MatchOption}
use Rattle.std.proofs.lemmas.Bool.{lt-ltb, le-ltb}
use Rattle.std.proofs.lemmas.List.{length-append}
use Rattle.pb_io.specs.Lines.{IsLine}
use Rattle.pb_games.specs.declared.refusal.Refusal.{Refusal}
use Rattle.pb_games.specs.declared.refusal.Refusal.TheVariants as refusal
use Rattle.pb_games.specs.Refusing.{Refuses}
use Rattle.pb_games.specs.Submissions.{Submission}
use Rattle.pb_games.proofs.Dues.{first_due, none_at_first}
use Rattle.pb_accepted.specs.Accepting as steps
use Rattle.pb_accepted.specs.Accepting.{Answer, Step, answer_of}
use Rattle.pb_accepted.specs.declared.ledger.Accepted.{Accepted}
use Rattle.pb_accepted.proofs.Steps.{refusal_step, step_to}
use Rattle.pb_accepted.specs.Ledger.{LedgerState}
use Rattle.pb_ledger.specs.Collecting.{Leads}

-- ---- one line

-- what a submission leads to
pub Leads-one : (ledger ledger' : LedgerState) (line : List ℕ) (answer : Answer) → Step ledger.cap ledger.accepted line answer ledger'.accepted
    → ledger'.basis ≡ ledger.basis → ledger'.cap ≡ ledger.cap → Leads ledger ledger' (line ∷ []) (answer ∷ [])
Leads-one ledger ledger' line answer step basis cap = record { run = (ledger'.accepted, step, refl); basis = basis; cap = cap }

-- what a line does of which nothing is known where it is too long
pub step_by : (ledger ledger' : LedgerState) (line : Option (Bor (List ℕ))) (whole : List ℕ) (full : Result Accepted Refusal) → IsLine line whole
    → MatchOption line ((full ≡ Err refusal.Long) × (ledger' ≡ ledger)) (λ bytes. Step ledger.cap ledger.accepted bytes.now (answer_of full) ledger'.accepted)
    → Step ledger.cap ledger.accepted whole (answer_of full) ledger'.accepted
step_by ledger ledger' None whole full is h =
    let refuses : Refuses whole refusal.Long = first_due refusal.Long whole (none_at_first whole) is in
    steps.refused refusal.Long refuses (ap answer_of h.0) (ap (λ (x : LedgerState). x.accepted) h.1)
step_by ledger ledger' (Some bytes) whole full is h = subst (λ text. Step ledger.cap ledger.accepted text (answer_of full) ledger'.accepted) is.0 h

pub step_of : (ledger ledger' : LedgerState) (line : List ℕ) (answer : Answer) → Leads ledger ledger' (line ∷ []) (answer ∷ [])
    → Step ledger.cap ledger.accepted line answer ledger'.accepted
step_of ledger ledger' line answer one = subst (λ (M : List Submission). Step ledger.cap ledger.accepted line answer M) (sym one.run.2) one.run.1

-- ---- how many games an answer adds

abbrev pub added : Answer → Bool → ℕ
added (Ok n) true = 1
added (Ok n) false = 0
added (Err e) is_new = 0

-- a line adds a game where the list has grown, and a line that is refused adds none
pub grows : (cap : ℕ) (A : List Submission) (line : List ℕ) (r : Answer) (B : List Submission) → Step cap A line r B
    → length B ≡ length A + added r (nat_lt (length A) (length B))
grows most A line (Ok n) B step = elim (step_to most A line (Ok n) B step).1 [
  | inl adds ↦
      let more : length B ≡ length A + 1 = ap length adds.4 ∙ length-append A (adds.0 ∷ []) in
      rw (lt-ltb (length A) (length B) (omega (arith, more))) more
  | inr keeps ↦
      let same : length B ≡ length A = ap length keeps.1 in
      rw (le-ltb (length A) (length B) (omega (arith, same))) (omega (arith, same))
]
grows most A line (Err e) B step = omega (arith, ap length (refusal_step most A line e B step))
