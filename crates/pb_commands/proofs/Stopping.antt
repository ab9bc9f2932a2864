-- How a command ends whose input is judged, from what came of judging it.
use Rattle.std.proofs.Common.{◌≡◌, ◌∙◌, ℕ, Bool, List, Option, None, Some, Result, Ok, Err, ap}
use Rattle.std.proofs.Common.{false, subst, sym, true}
use Rattle.std.specs.Option.{is_some}
use Rattle.std.specs.Prelude.{MatchResult}
use Rattle.std.specs.Result.{IsErrAnd}
use Rattle.pb_io.specs.Sink.{SinkState}
use Rattle.pb_io.specs.Source.{SourceState}
use Rattle.pb_io.specs.declared.fault.Fault.{Fault}
use Rattle.pb_poly.specs.declared.book.Entry.{Entry}
use Rattle.pb_commands.specs.Judged.{book_verdict, PutsOrEnds, Verdict, Accepts, StopsOrEnds}
use Rattle.pb_commands.specs.Judged.{refused_verdict, unless_refused, table_verdict}
use Rattle.pb_commands.specs.ProbeShown.{ReadsBoth, WithSources}
use Rattle.pb_commands.specs.declared.stop.Refused.{Refused}
use Rattle.pb_commands.specs.declared.stop.Stopped.{Stopped}
use Rattle.pb_commands.specs.declared.stop.Stopped.TheVariants as stopped
use Rattle.pb_commands.proofs.Judging.{shows}

-- where the input comes to this verdict
pub stops_by : (judges : Verdict → Type 0) (verdict : Verdict) → judges verdict → (sink sink' : SinkState) (result : Result Bool Stopped)
    → StopsOrEnds (λ v. v ≡ verdict) sink sink' result → StopsOrEnds judges sink sink' result
stops_by judges verdict judged sink sink' (Ok answer) h = (h.0, shows judges verdict judged sink sink' (Ok true) h.1)
stops_by judges verdict judged sink sink' (Err (stopped.Refused why)) h = (subst (λ (v : Verdict). judges v) (sym h.0) judged, h.1)
stops_by judges verdict judged sink sink' (Err (stopped.Fault fault)) h = shows judges verdict judged sink sink' (Err fault) h

-- what is so of an input, and why it is refused where it is none
module _ {X E : Type 0} (why_of : E → Refused) (is : Result X E → Type 0) (sink sink' : SinkState) where
  abbrev Named : Result X E → Result X Refused → Type 0
  Named found judged = MatchResult found (λ x. judged ≡ Ok x) (λ e. IsErrAnd judged (λ why. why ≡ why_of e))

  pub accepted : (found : Result X E) (judged : Result X Refused) (x : X) → is found → Named found judged → Accepts judged sink sink' (Ok x) → is (Ok x) × (sink' ≡ sink)
  accepted (Ok y) judged x h named a = let same : y ≡ x = cc (named, a.0) in (subst (λ (z : X). is (Ok z)) same h, a.1)
  accepted (Err e) (Ok y) x h named a = absurd named
  accepted (Err e) (Err why) x h named a = absurd (cc a.0)

  pub refused : (found : Result X E) (judged : Result X Refused) (stop : Stopped) → is found → Named found judged → Accepts judged sink sink' (Err stop)
      → (e : E) × is (Err e) × StopsOrEnds (λ v. v ≡ refused_verdict (why_of e)) sink sink' (Err stop)
  refused (Ok y) judged (stopped.Refused why) h named a = absurd (cc (named, a.0))
  refused (Ok y) judged (stopped.Fault fault) h named a = absurd (cc (named, a.1))
  refused (Err e) (Ok y) stop h named a = absurd named
  refused (Err e) (Err cause) (stopped.Refused why) h named a = let same : why ≡ why_of e = cc (named, a.0) in (e, h, (ap refused_verdict same, a.1))
  refused (Err e) (Err cause) (stopped.Fault fault) h named a =
      let same : a.0 ≡ why_of e = cc (named, a.1) in
      (e, h, subst (λ (why : Refused). PutsOrEnds (λ v. v ≡ refused_verdict why) sink sink' (Err fault)) same a.2)

-- where the table or the book can't be had
pub none_had : (fills : ℕ) (t t' b b' : SourceState) (sink sink' : SinkState) (stop : Stopped) → ReadsBoth fills t t' b b' sink sink' (Err stop)
    → (goes : List ℕ → List Entry → Type 0) (ends : Verdict → Type 0) → ((refusal : Verdict) → StopsOrEnds (λ v. v ≡ refusal) sink sink' (Err stop) → ends refusal)
    → WithSources fills t t' b b' goes ends
none_had fills t t' b b' sink sink' stop (Err e, read, r) goes ends so = (Err e, read, so (table_verdict e) r)
none_had fills t t' b b' sink sink' stop (Ok words, read, (Err e, read_too, r)) goes ends so = (Ok words, read, (Err e, read_too, so (book_verdict e) r))
none_had fills t t' b b' sink sink' stop (Ok words, read, (Ok entries, read_too, r)) goes ends so = absurd r

-- what is answered that tells no reason
pub run_taken : (judges : Verdict → Type 0) (sink sink' : SinkState) (result : Result Bool Stopped) (found : Option Bool) (answer : Bool) → StopsOrEnds judges sink sink' result
    → Ok found ≡ unless_refused result → answer ≡ is_some found → PutsOrEnds judges sink sink' (Ok answer)
run_taken judges sink sink' (Ok taken) found answer h is some =
    let one : found ≡ Some taken = cc is in let same : answer ≡ true = some ∙ ap is_some one in subst (λ b. PutsOrEnds judges sink sink' (Ok b)) (sym same) h.1
run_taken judges sink sink' (Err (stopped.Refused why)) found answer h is some =
    let none : found ≡ None = cc is in let same : answer ≡ false = some ∙ ap is_some none in subst (λ b. PutsOrEnds judges sink sink' (Ok b)) (sym same) (shows judges (refused_verdict why) h.0 sink sink' (Ok false) h.1)
run_taken judges sink sink' (Err (stopped.Fault fault)) found answer h is some = absurd (cc is)

pub run_stopped : (judges : Verdict → Type 0) (sink sink' : SinkState) (result : Result Bool Stopped) (fault : Fault) → StopsOrEnds judges sink sink' result
    → Err fault ≡ unless_refused result → PutsOrEnds judges sink sink' (Err fault)
run_stopped judges sink sink' (Ok taken) fault h is = absurd (cc is)
run_stopped judges sink sink' (Err (stopped.Refused why)) fault h is = absurd (cc is)
run_stopped judges sink sink' (Err (stopped.Fault f)) fault h is = let same : f ≡ fault = cc is in subst (λ (x : Fault). PutsOrEnds judges sink sink' (Err x)) same h
