-- What the command `check` puts, from what a line is judged to be.
use Rattle.std.proofs.Common.{◌≡◌, ◌∙◌, ℕ, ◌<◌, ◌≤◌, Bool, true, false, List, [], ◌++◌, ◌⊎◌, length}
use Rattle.std.proofs.Common.{Option, None, Some, Ok, Err, ap, subst, append-nil, codes, inl, inr}
use Rattle.std.proofs.Common.{refl, sym}
use Rattle.std.proofs.lemmas.Bool.{false≢true}
use Rattle.pb_board.specs.LineEnd.{with_end}
use Rattle.std.specs.Borrow.{Bor}
use Rattle.pb_io.specs.Lines.{IsLine, line_limit}
use Rattle.pb_io.specs.LineTask.{AtLine}
use Rattle.pb_io.specs.Source.{SourceState}
use Rattle.pb_io.specs.Sink.{SinkState}
use Rattle.pb_io.specs.declared.fault.Fault.{Fault}
use Rattle.pb_io.specs.declared.fault.Fault.TheVariants as fault
use Rattle.pb_games.specs.Refusing.{Refuses}
use Rattle.pb_games.specs.Submissions.{Submits, Submission}
use Rattle.pb_games.specs.declared.refusal.Refusal.{Refusal}
use Rattle.pb_games.specs.declared.refusal.Refusal.TheVariants.{Conflict, Full, Long, Memory}
use Rattle.pb_games.proofs.Dues.{first_due, none_at_first}
use Rattle.pb_games.proofs.OneRefused.{one_refusal}
use Rattle.pb_games.proofs.Refused.{unlawful}
use Rattle.pb_accepted.specs.Accepting as steps
use Rattle.pb_accepted.specs.Accepting.{Answer, Step}
use Rattle.pb_accepted.specs.Accepting.{named, reply_line}
use Rattle.pb_accepted.proofs.Steps.{named_step}
use Rattle.pb_commands.specs.Judged.{Verdict}
use Rattle.pb_commands.specs.LinesRun.{PutsButLast}
use Rattle.pb_commands.specs.CheckShown.{ChecksOrEnds, CheckShown}
use Rattle.pb_commands.specs.CheckShown as check

-- ---- one line

-- the reply to a line that is refused names at most 64 bytes
pub named_short : (line : List ℕ) (e : Refusal) → Refuses line e → length (named line (Err e)) ≤ 64
named_short line e h = named_step 0 [] line (Err e) [] (steps.refused e h refl refl)

-- a legal game, whose line was put in parts
pub legal_put : (line id : List ℕ) (s : Submission) → Submits line s → id ≡ s.0 → CheckShown line (Ok (true, with_end (codes "ok " ++ (id ++ []))))
legal_put line id s law is = check.legal s law (ap (λ (w : List ℕ). let v : Verdict = Ok (true, with_end (codes "ok " ++ w)) in v) (append-nil id ∙ is))

-- a line that was told is its bytes
pub told_is : (given : Option (Bor (List ℕ))) (bytes : Bor (List ℕ)) (line : List ℕ) → given ≡ Some bytes → IsLine given line → bytes.now ≡ line
told_is given bytes line some told = (subst (λ (o : Option (Bor (List ℕ))). IsLine o line) some told).0

-- and one that wasn't told is too long
pub untold_is : (given : Option (Bor (List ℕ))) (line : List ℕ) → given ≡ None → IsLine given line → line_limit < length line
untold_is given line none told = subst (λ (o : Option (Bor (List ℕ))). IsLine o line) none told

-- a line that isn't kept
pub long_refused : (line : List ℕ) → line_limit < length line → CheckShown line (Ok (false, reply_line [] (Err Long)))
long_refused line long = check.refused Long (first_due Long line (none_at_first line) long) refl

-- ---- the run

-- what a verdict tells is one answer and one text
abbrev told_as : Bool → List ℕ → Verdict
told_as answer out = Ok (answer, out)

other_answer : (x y : List ℕ) → told_as false x ≡ told_as true y → ⊥
other_answer x y is = let pair : (false, x) ≡ (true, y) = cc is in false≢true (ap (λ (p : Bool × List ℕ). p.0) pair)

same_text : (a b : Bool) (x y : List ℕ) → told_as a x ≡ told_as b y → x ≡ y
same_text a b x y is = let pair : (a, x) ≡ (b, y) = cc is in ap (λ (p : Bool × List ℕ). p.1) pair

never_wants : (line : List ℕ) (f : Fault) → CheckShown line (Err f) → ⊥
never_wants line f (check.legal s law is) = cc is
never_wants line f (check.refused e h is) = cc is

module _ (fills : ℕ) (s s' : SourceState) (sink sink' : SinkState) where
  at_a_line : AtLine fills s s' (PutsButLast (λ _. CheckShown) sink sink') → ⊥
  at_a_line (inl h) = never_wants h.done.last fault.Memory h.done.wants
  at_a_line (inr h) = never_wants h.done.last fault.Memory h.done.wants

  pub at_first : ChecksOrEnds fills s s' sink sink' (Err fault.Memory) → (s' ≡ s) × (sink' ≡ sink)
  at_first (inl h) = h
  at_first (inr h) = absurd (at_a_line h)

-- ---- the answers of a ledger

refused_step : (line : List ℕ) (e : Refusal) → Refuses line e → (most : ℕ) (A : List Submission) (r : Answer) (B : List Submission) → Step most A line r B
    → (r ≡ Err e) × (B ≡ A)
refused_step line e h most A r B (steps.new s law fresh room is same) = absurd (unlawful line e s h law)
refused_step line e h most A r B (steps.full s law fresh many is same) = absurd (unlawful line e s h law)
refused_step line e h most A r B (steps.memory s law fresh room is same) = absurd (unlawful line e s h law)
refused_step line e h most A r B (steps.repeat s n law at is same) = absurd (unlawful line e s h law)
refused_step line e h most A r B (steps.conflict s g n law at differs is same) = absurd (unlawful line e s h law)
refused_step line e h most A r B (steps.refused d due is same) = (is ∙ ap (λ (x : Refusal). let q : Answer = Err x in q) (one_refusal line d e due h), same)

pub refused_agrees : (line out : List ℕ) → CheckShown line (Ok (false, out)) → (cap : ℕ) (A : List Submission) (r : Answer) (B : List Submission) → Step cap A line r B → (out ≡ reply_line line r) × (B ≡ A)
refused_agrees line out (check.legal s law is) most A r B step = absurd (other_answer _ _ is)
refused_agrees line out (check.refused e h is) most A r B step =
    let answered = refused_step line e h most A r B step in
    (same_text false false _ _ is ∙ ap (reply_line line) (sym answered.0), answered.1)

abbrev IsOfOthers : Refusal → Type 0
IsOfOthers e = (e ≡ Full) ⊎ (e ≡ Memory) ⊎ ((n : ℕ) × (e ≡ Conflict n))

abbrev refused_so : Refusal → Answer
refused_so e = Err e

same_refusal : (d e : Refusal) → refused_so d ≡ refused_so e → d ≡ e
same_refusal d e is = cc is

never_taken : (e : Refusal) (n : ℕ) → refused_so e ≡ Ok n → ⊥
never_taken e n is = cc is

taken_step : (line : List ℕ) (s : Submission) → Submits line s → (most : ℕ) (A : List Submission) (e : Refusal) (B : List Submission) → Step most A line (Err e) B → IsOfOthers e
taken_step line s law most A e B (steps.new t other fresh room is same) = absurd (never_taken e _ is)
taken_step line s law most A e B (steps.full t other fresh many is same) = inl (same_refusal e Full is)
taken_step line s law most A e B (steps.memory t other fresh room is same) = inr (inl (same_refusal e Memory is))
taken_step line s law most A e B (steps.repeat t n other at is same) = absurd (never_taken e n is)
taken_step line s law most A e B (steps.conflict t g n other at differs is same) = inr (inr (n, same_refusal e (Conflict n) is))
taken_step line s law most A e B (steps.refused d due is same) = absurd (unlawful line d s due law)

pub taken_agrees : (line out : List ℕ) → CheckShown line (Ok (true, out)) → (cap : ℕ) (A : List Submission) (e : Refusal) (B : List Submission) → Step cap A line (Err e) B → (e ≡ Full) ⊎ (e ≡ Memory) ⊎ ((n : ℕ) × (e ≡ Conflict n))
taken_agrees line out (check.legal s law is) most A e B step = taken_step line s law most A e B step
taken_agrees line out (check.refused d h is) most A e B step = absurd (other_answer _ _ (sym is))
