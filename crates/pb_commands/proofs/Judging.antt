-- What a command puts, from what its parts do and what its input comes to.
use Rattle.std.proofs.Common.{◌≡◌, ℕ, Bool, List, Result, Ok, Err, ap, inl, inr, subst, sym}
use Rattle.pb_io.specs.Sink.{SinkState}
use Rattle.pb_commands.specs.Judged.{ByInput, PutsOrEnds, PutsText, PutsUntil, Verdict, OnlyTextsOf}
use Rattle.pb_commands.specs.Judged.{TextsAreOf, Shows}
use Rattle.pb_io.specs.declared.fault.Fault.{Fault}
use Rattle.pb_io.specs.declared.fault.Fault.TheVariants.{Read, Write, Endless, Memory}

-- the text under another relation
pub text_as : (judges others : Verdict → Type 0) (sink sink' : SinkState) (answer : Bool) → ((out : List ℕ) → judges (Ok (answer, out)) → others (Ok (answer, out)))
    → PutsText judges sink sink' answer → PutsText others sink sink' answer
text_as judges others sink sink' answer as_other h = record { out = h.out; judged = as_other h.out h.judged; put = h.put }

-- what is put where the input comes to this is put where it comes to what follows from it
module _ (judges others : Verdict → Type 0) (as_other : (verdict : Verdict) → judges verdict → others verdict) (sink sink' : SinkState) where
  pub until_as : (fault : Fault) → PutsUntil judges sink sink' fault → PutsUntil others sink sink' fault
  until_as Write h = record {
    answer = h.answer;
    out = h.out;
    judged = as_other (Ok (h.answer, h.out)) h.judged;
    count = h.count;
    put = h.put;
    fails = h.fails;
    flushes = h.flushes;
  }
  until_as Read h = (as_other (Err Read) h.0, h.1)
  until_as Endless h = (as_other (Err Endless) h.0, h.1)
  until_as Memory h = (as_other (Err Memory) h.0, h.1)

  pub ends_as : (result : Result Bool Fault) → PutsOrEnds judges sink sink' result → PutsOrEnds others sink sink' result
  ends_as (Ok answer) h = (text_as judges others sink sink' answer (λ out. as_other (Ok (answer, out))) h.0, h.1)
  ends_as (Err fault) h = until_as fault h

module _ (judges : Verdict → Type 0) (sink sink' : SinkState) where
  abbrev Ends : Result Bool Fault → Type 0
  Ends = PutsOrEnds judges sink sink'

  -- a text that was shown, or couldn't be
  module _ {A : Type 0} (answer : Bool) (out : List ℕ) (judged : judges (Ok (answer, out))) where
    pub text_shown : (v : A) → Shows {A = A} sink sink' (Ok v) out → Ends (Ok answer)
    text_shown v h = (record { out = out; judged = judged; put = h.all }, h.handed_on)

    pub text_not_shown : (e : Fault) → Shows {A = A} sink sink' (Err e) out → Ends (Err e)
    text_not_shown e h =
        let fault = h.fault in
        let front = h.front in
        subst (λ (x : Fault). PutsUntil judges sink sink' x) (sym fault.0)
        (record { answer = answer; out = out; judged = judged; count = front.0; put = front.1; fails = fault.1; flushes = h.flushes })

-- what the input comes to is put
pub shows : (judges : Verdict → Type 0) (verdict : Verdict) → judges verdict → (sink sink' : SinkState) (result : Result Bool Fault)
    → PutsOrEnds (λ v. v ≡ verdict) sink sink' result → PutsOrEnds judges sink sink' result
shows judges verdict judged = ends_as (λ v. v ≡ verdict) judges (λ v is. subst (λ (x : Verdict). judges x) (sym is) judged)

-- the same of a verdict that is another
pub shows_as : (verdict other : Verdict) → verdict ≡ other → (sink sink' : SinkState) (result : Result Bool Fault)
    → PutsOrEnds (λ v. v ≡ verdict) sink sink' result → PutsOrEnds (λ v. v ≡ other) sink sink' result
shows_as verdict other same = shows (λ v. v ≡ other) verdict same

-- where an input is one thing, what comes of it twice is so of that one
pub by_one : {X E : Type 0} → (is : Result X E → Type 0) → ((r x : Result X E) → is r → is x → r ≡ x) → (goes others : X → Type 0) → (ends ends' : E → Type 0)
    → (C : Type 0) → ((x : X) → is (Ok x) → goes x → others x → C) → ((e : E) → ends e → ends' e → C) → ByInput is goes ends → ByInput is others ends' → C
by_one is one goes others ends ends' C taken refused (Ok x, h, g) (Ok y, k, o) = let same : y ≡ x = cc (one (Ok y) (Ok x) k h) in taken x h g (subst others same o)
by_one is one goes others ends ends' C taken refused (Ok x, h, g) (Err e, k, o) = absurd (cc (one (Ok x) (Err e) h k))
by_one is one goes others ends ends' C taken refused (Err e, h, g) (Ok y, k, o) = absurd (cc (one (Err e) (Ok y) h k))
by_one is one goes others ends ends' C taken refused (Err d, h, g) (Err e, k, o) = let same : e ≡ d = cc (one (Err e) (Err d) k h) in refused d g (subst ends' same o)

-- where the other input comes to one text, and no fault comes but want of memory
pub only_texts : (judges others : Verdict → Type 0) → TextsAreOf judges others → ((x y : Bool × List ℕ) → others (Ok x) → others (Ok y) → x ≡ y)
    → ((fault : Fault) → judges (Err fault) → fault ≡ Memory) → OnlyTextsOf judges others
only_texts judges others as_other one faults text (Ok x) other h = inl (ap (λ (y : Bool × List ℕ). let v : Verdict = Ok y in v) (one x text (as_other x h) other))
only_texts judges others as_other one faults text (Err fault) other h = inr (ap (λ (y : Fault). let v : Verdict = Err y in v) (faults fault h))
