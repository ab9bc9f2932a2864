-- From the lines that were answered to what was put.
use Rattle.std.proofs.Common.{◌≡◌, ℕ, ◌+◌, ◌*◌, ◌^◌, ◌<◌, ◌≤◌, Bool, true, false, ◌&&◌, ◌⊎◌, List}
use Rattle.std.proofs.Common.{[], ◌∷◌, ◌++◌, length, Result, Ok, Err, refl, sym, ap, ◌∙◌, subst}
use Rattle.std.proofs.Common.{arith, inl, inr}
use Rattle.std.specs.Io.KnownBytes.{Appends}
use Rattle.std.proofs.Math.Seq.{take-append-add, take-length}
use Rattle.std.proofs.lemmas.List.{append-nil, append_assoc, length-append}
use Rattle.std.proofs.KnownBytes.{Appends-nil, Appends-trans, Appends-kept}
use Rattle.pb_io.specs.Source.{SourceState}
use Rattle.pb_io.specs.Fault.{fault_of_read}
use Rattle.pb_io.specs.Sink.{AwaitsFlush, Flush, Put, SinkState}
use Rattle.pb_io.specs.LineTask.{AtEnd, AtLine, ReadUntil, StopsAtLast, TakesAll, TakesStream}
use Rattle.pb_io.specs.LineTask.{TakesUntil, chunk_len, either}
use Rattle.pb_io.specs.declared.fault.ReadFault.{ReadFault}
use Rattle.pb_io.specs.declared.fault.ReadFault.TheVariants as read
use Rattle.pb_io.specs.declared.source.Failed.{Failed}
use Rattle.pb_io.specs.Count.{next_count}
use Rattle.pb_io.proofs.FlushLemmas.{AwaitsFlush-trans, not_flushed}
use Rattle.pb_io.proofs.TaskLemmas.{takes-lines, takes-until}
use Rattle.pb_io.proofs.EndLemmas.{AtEnd-weaker, AtFault-weaker, AtLine-weaker, AtNoEnd-weaker}
use Rattle.pb_io.specs.declared.fault.Fault.{Fault}
use Rattle.pb_io.specs.declared.fault.Fault.TheVariants.{Read, Write, Endless, Memory}
use Rattle.pb_commands.specs.declared.lines.Answering.{Answering}
use Rattle.pb_commands.specs.LinesRun.{AnswersLine, PutsOrStops, AnswersOrEnds, PutsButLast}
use Rattle.pb_commands.specs.LinesRun.{PutsLines, LinesShown}
use Rattle.pb_io.specs.Sink.{HandedOnOnce}
use Rattle.pb_commands.specs.Judged.{PutsFrontOfText, PutsText, Verdict}
use Rattle.pb_commands.proofs.Judging.{until_as}

-- ---- one line

-- bytes that were put are what comes of the line
module _ (judges : Verdict → Type 0) (sink sink' : SinkState) (taken : Bool) (out : List ℕ) (judged : judges (Ok (taken, out))) where
  pub put_as : (v : Unit {0}) → Put {E = Failed} sink sink' (Ok v) out → PutsOrStops judges sink sink' (Ok taken)
  put_as v h = (record { out = out; judged = judged; put = h.all }, inr (h.failed, h.flushed, h.flushes))

  pub stops_as : (e : Failed) → Put {E = Failed} sink sink' (Err e) out → PutsOrStops judges sink sink' (Err Write)
  stops_as e h = record { answer = taken; out = out; judged = judged; count = h.front.0; put = h.front.1; fails = h.failed; flushes = h.flushes }

-- the same of a verdict that was put
module _ (judges : Verdict → Type 0) (verdict : Verdict) (judged : judges verdict) where
  is_judged : (v : Verdict) → v ≡ verdict → judges v
  is_judged v is = subst (λ (x : Verdict). judges x) (sym is) judged

  pub line_shows : (sink sink' : SinkState) (result : Result Bool Fault) → PutsOrStops (λ v. v ≡ verdict) sink sink' result
      → PutsOrStops judges sink sink' result
  line_shows sink sink' (Ok taken) h =
      let text = h.0 in (record { out = text.out; judged = is_judged (Ok (taken, text.out)) text.judged; put = text.put }, h.1)
  line_shows sink sink' (Err Write) h = until_as (λ v. v ≡ verdict) judges is_judged sink sink' Write h
  line_shows sink sink' (Err Memory) h = (is_judged (Err Memory) h.0, h.1)
  line_shows sink sink' (Err Read) h = absurd h
  line_shows sink sink' (Err Endless) h = absurd h

-- ---- flushes

-- all lines were answered, and what was put was handed on
pub flushed_once : (k l m : SinkState) (v : Unit {0}) → AwaitsFlush k l → Flush {E = Failed} l m (Ok v) → HandedOnOnce k m
flushed_once k l m v awaits flush = ((flush.failed, flush.flushed), flush.flushes ∙ ap next_count (not_flushed k l awaits))

-- ---- lines in order

and_true : (a : Bool) → a ≡ (a && true)
and_true true = refl
and_true false = refl

and_assoc : (a b c : Bool) → ((a && b) && c) ≡ (a && (b && c))
and_assoc true b c = refl
and_assoc false b c = refl

abbrev text_is : Bool → List ℕ → Verdict
text_is answer out = Ok (answer, out)

same_text : (a b : Bool) (x y : List ℕ) → a ≡ b → x ≡ y → text_is a x ≡ text_is b y
same_text a b x y same texts = ap (λ c. text_is c x) same ∙ ap (λ z. text_is b z) texts

answer_of : (a b : Bool) (x y : List ℕ) → text_is a x ≡ text_is b y → a ≡ b
answer_of a b x y is = let pair : (a, x) ≡ (b, y) = cc is in ap (λ (p : Bool × List ℕ). p.0) pair

text_of : (a b : Bool) (x y : List ℕ) → text_is a x ≡ text_is b y → x ≡ y
text_of a b x y is = let pair : (a, x) ≡ (b, y) = cc is in ap (λ (p : Bool × List ℕ). p.1) pair

-- one line more at the end
module _ (shown : ℕ → List ℕ → Verdict → Type 0) where
  shown-push : (number : ℕ) (before : List (List ℕ)) (line : List ℕ) (answer taken : Bool) (out last : List ℕ)
      → LinesShown shown number before (text_is answer out) → shown (number + length before) line (text_is taken last)
      → LinesShown shown number (before ++ line ∷ []) (text_is (answer && taken) (out ++ last))
  shown-push number [] line answer taken out last h one = (
    taken,
    true,
    last,
    [],
    subst (λ n. shown n line (text_is taken last)) (omega arith) one,
    refl,
    same_text _ _ _ _ (ap (λ a. a && taken) (answer_of _ _ _ _ h) ∙ and_true taken) (ap (λ o. o ++ last) (text_of _ _ _ _ h) ∙ sym (append-nil last)),
  )
  shown-push number (first ∷ before) line answer taken out last h one = (
    h.0,
    h.1 && taken,
    h.2,
    h.3 ++ last,
    h.4,
    shown-push (number + 1) before line h.1 taken h.3 last h.5 (subst (λ n. shown n line (text_is taken last)) (omega arith) one),
    same_text _ _ _ _ (ap (λ a. a && taken) (answer_of _ _ _ _ h.6) ∙ and_assoc h.0 h.1 taken)
        (ap (λ o. o ++ last) (text_of _ _ _ _ h.6) ∙ append_assoc h.2 h.3 last),
  )

-- the same lines by answers of which others follow
lines_as : (shown others : ℕ → List ℕ → Verdict → Type 0) → ((number : ℕ) (line : List ℕ) (verdict : Verdict) → shown number line verdict → others number line verdict)
    → (number : ℕ) (ls : List (List ℕ)) (verdict : Verdict) → LinesShown shown number ls verdict → LinesShown others number ls verdict
lines_as shown others as_other number [] verdict h = h
lines_as shown others as_other number (line ∷ ls) verdict h =
    (h.0, h.1, h.2, h.3, as_other number line _ h.4, lines_as shown others as_other (number + 1) ls _ h.5, h.6)

module _ {A K : Type 0} (shows : A → ℕ → List ℕ → Verdict → Type 0) (state : K → SinkState) where
  abbrev Shown : Answering A K → ℕ → List ℕ → Verdict → Type 0
  Shown s = shows s.answerer.now

  -- the same sink is lent, and what comes of lines stays
  record Keeps (s t : Answering A K) : Type 0 where
    lent : t.sink.ghost_name ≡ s.sink.ghost_name
    same : (number : ℕ) (line : List ℕ) (verdict : Verdict) → Shown t number line verdict → Shown s number line verdict

  kept : (s : Answering A K) → Keeps s s
  kept s = record { lent = refl; same = λ number line verdict h. h }

  kept_by : (s : Answering A K) (line : List ℕ) (result : Result (Unit {0}) Fault) (t : Answering A K) → AnswersLine shows state s line result t → Keeps s t
  kept_by s line result t one = record { lent = one.lent; same = one.same }

  kept_on : (s m t : Answering A K) → Keeps s m → Keeps m t → Keeps s t
  kept_on s m t h k = record { lent = k.lent ∙ h.lent; same = λ number line verdict x. h.same number line verdict (k.same number line verdict x) }

  -- lines that were taken gave this, and it was put
  record Run (s t : Answering A K) (ls : List (List ℕ)) : Type 0 where
    answer : Bool
    puts : PutsText (LinesShown (Shown s) (s.lines + 1) ls) (state s.sink.now) (state t.sink.now) answer
    counted : t.lines ≡ s.lines + length ls
    answered : t.all_taken ≡ (s.all_taken && answer)
    awaits : AwaitsFlush (state s.sink.now) (state t.sink.now)
    keeps : Keeps s t

  run_of : (s t : Answering A K) (ls : List (List ℕ)) → s.lines + length ls < 2 ^ 64 → TakesAll (AnswersLine shows state) s ls t → Run s t ls
  run_of s t [] few h =
      let P : Answering A K → Type 0 = λ x. Run s x [] in subst P (sym h) (record {
        answer = true;
        puts = record { out = []; judged = refl; put = Appends-nil (state s.sink.now).bytes };
        counted = omega arith;
        answered = and_true s.all_taken;
        awaits = inl refl;
        keeps = kept s;
      })
  run_of s t (line ∷ ls) few h =
      let m : Answering A K = h.0 in let one = h.1 in let first = one.puts in
      let number : next_count s.lines ≡ s.lines + 1 = omega (arith, few) in
      let counted : m.lines ≡ s.lines + 1 = one.counted ∙ number in
      let rest = run_of m t ls (omega (arith, few, counted)) h.2 in
      let text = first.1.0 in
      let others = lines_as (Shown m) (Shown s) one.same (m.lines + 1) ls _ rest.puts.judged in record {
        answer = first.0 && rest.answer;
        puts = record {
          out = text.out ++ rest.puts.out;
          judged = (
            first.0,
            rest.answer,
            text.out,
            rest.puts.out,
            subst (λ n. Shown s n line (text_is first.0 text.out)) number text.judged,
            subst (λ n. LinesShown (Shown s) (n + 1) ls (text_is rest.answer rest.puts.out)) counted others,
            refl {a = text_is (first.0 && rest.answer) (text.out ++ rest.puts.out)},
          );
          put = Appends-trans _ _ _ _ _ text.put rest.puts.put;
        };
        counted = omega (arith, rest.counted, counted);
        answered = rest.answered ∙ ap (λ b. b && rest.answer) first.2 ∙ and_assoc s.all_taken first.0 rest.answer;
        awaits = AwaitsFlush-trans (state s.sink.now) (state m.sink.now) (state t.sink.now) first.1.1 rest.awaits;
        keeps = kept_on s m t (kept_by s line (Ok tt) m one) rest.keeps;
      }

  -- ---- the last line stopped the run

  module _ (s t : Answering A K) (ls : List (List ℕ)) (few : s.lines + length ls < 2 ^ 64) where
    -- how many lines stand before it
    fewer : (before : List (List ℕ)) (line : List ℕ) → ls ≡ before ++ line ∷ [] → s.lines + length before + 1 < 2 ^ 64
    fewer before line cut = omega (arith, few, ap length cut, length-append before (line ∷ []))

    run_before : (e : Fault) (h : StopsAtLast (AnswersLine shows state) s ls e t) → Run s h.2 h.0
    run_before e h = run_of s h.2 h.0 (omega (arith, fewer h.0 h.1 h.3)) h.4

    last_number : (e : Fault) (h : StopsAtLast (AnswersLine shows state) s ls e t) → next_count h.2.lines ≡ s.lines + 1 + length h.0
    last_number e h = let run = run_before e h in omega (arith, run.counted, fewer h.0 h.1 h.3)

    cut_of : StopsAtLast (AnswersLine shows state) s ls Write t → PutsFrontOfText (LinesShown (Shown s) (s.lines + 1) ls) (state s.sink.now) (state t.sink.now)
    cut_of h =
        let run = run_before Write h in
        let last = h.5.puts in
        let text = run.puts in
        let number = last_number Write h in
        let same = run.keeps.same _ _ _ last.judged in
        let one = subst (λ n. Shown s n h.1 (text_is last.answer last.out)) number same in
        let all = shown-push (Shown s) (s.lines + 1) h.0 h.1 run.answer last.answer text.out last.out text.judged one in record {
          answer = run.answer && last.answer;
          out = text.out ++ last.out;
          judged = subst (λ (x : List (List ℕ)). LinesShown (Shown s) (s.lines + 1) x (text_is (run.answer && last.answer) (text.out ++ last.out))) (sym h.3) all;
          count = length text.out + last.count;
          put = subst (λ bytes. Appends (state s.sink.now).bytes (state t.sink.now).bytes bytes) (sym (take-append-add text.out last.out last.count)) (Appends-trans _ _ _ _ _ text.put last.put);
          fails = last.fails;
          flushes = last.flushes ∙ not_flushed (state s.sink.now) (state h.2.sink.now) run.awaits;
        }

    kept_at_stop : (e : Fault) → StopsAtLast (AnswersLine shows state) s ls e t → Keeps s t
    kept_at_stop e h = kept_on s h.2 t (run_before e h).keeps (kept_by h.2 h.1 (Err e) t h.5)

  -- ---- the whole of a stream, from the first line on

  module _ (fills : ℕ) (small : fills < 2 ^ 32) (old new : SourceState) (s t : Answering A K) (first : s.lines ≡ 0) where
    abbrev sink : SinkState
    sink = state s.sink.now

    abbrev sink' : SinkState
    sink' = state t.sink.now

    few : (ls : List (List ℕ)) → length ls ≤ fills * chunk_len → s.lines + length ls < 2 ^ 64
    few ls some = omega (arith, small, first, some)

    from_one : (ls : List (List ℕ)) (verdict : Verdict) → LinesShown (Shown s) (s.lines + 1) ls verdict → LinesShown (Shown s) 1 ls verdict
    from_one ls verdict shown = subst (λ n. LinesShown (Shown s) (n + 1) ls verdict) first shown

    text_from_one : (ls : List (List ℕ)) (mid : SinkState) (answer : Bool) → PutsText (LinesShown (Shown s) (s.lines + 1) ls) sink mid answer → PutsText (LinesShown (Shown s) 1 ls) sink mid answer
    text_from_one ls mid answer h = record { out = h.out; judged = from_one ls (text_is answer h.out) h.judged; put = h.put }

    front_from_one : (ls : List (List ℕ)) → PutsFrontOfText (LinesShown (Shown s) (s.lines + 1) ls) sink sink' → PutsFrontOfText (LinesShown (Shown s) 1 ls) sink sink'
    front_from_one ls h = record {
      answer = h.answer;
      out = h.out;
      judged = from_one ls (text_is h.answer h.out) h.judged;
      count = h.count;
      put = h.put;
      fails = h.fails;
      flushes = h.flushes;
    }

    lines_put : (m : Answering A K) (ls : List (List ℕ)) → Run s m ls → PutsLines (Shown s) sink (state m.sink.now) ls
    lines_put m ls run = record { answer = run.answer; puts = text_from_one ls (state m.sink.now) run.answer run.puts; awaits = run.awaits }

    but_last : (ls : List (List ℕ)) → length ls ≤ fills * chunk_len → StopsAtLast (AnswersLine shows state) s ls Memory t → PutsButLast (Shown s) sink sink' ls
    but_last ls some h =
        let number : next_count h.2.lines ≡ length h.0 + 1 = omega (arith, first, last_number s t ls (few ls some) Memory h) in
        let run = run_before s t ls (few ls some) Memory h in
        let stop = h.5.puts in
        let same = run.keeps.same _ _ _ stop.0 in record {
          before = h.0;
          last = h.1;
          are = h.3;
          wants = subst (λ n. Shown s n h.1 (Err Memory)) number same;
          puts = subst (λ (x : SinkState). PutsLines (Shown s) sink x h.0) (sym stop.1) (lines_put h.2 h.0 run);
        }

    abbrev TakesLines : Type 0
    TakesLines = TakesStream (either (AnswersLine shows state)) fills old new s (Ok tt) t

    at_end : TakesLines → AtEnd fills old new (λ ls. Run s t ls)
    at_end h =
        AtEnd-weaker fills old new (λ ls. TakesAll (AnswersLine shows state) s ls t) (λ ls. Run s t ls) (λ ls some x. run_of s t ls (few ls some) x)
        (takes-lines (AnswersLine shows state) fills old new s t h)

    pub all_of : s.all_taken ≡ true → TakesLines → AtEnd fills old new (λ ls. PutsText (LinesShown (Shown s) 1 ls) sink sink' t.all_taken)
    all_of fresh h =
        AtEnd-weaker fills old new (λ ls. Run s t ls) (λ ls. PutsText (LinesShown (Shown s) 1 ls) sink sink' t.all_taken) (λ ls some run.
        let answer : t.all_taken ≡ run.answer = run.answered ∙ ap (λ b. b && run.answer) fresh in
        subst (λ b. PutsText (LinesShown (Shown s) 1 ls) sink sink' b) (sym answer) (text_from_one ls sink' run.answer run.puts)) (at_end h)

    pub awaits_of : TakesLines → AwaitsFlush sink sink'
    awaits_of h = (at_end h).done.awaits

    all_lines : (ls : List (List ℕ)) → length ls ≤ fills * chunk_len → TakesAll (AnswersLine shows state) s ls t → PutsLines (Shown s) sink sink' ls
    all_lines ls some h = lines_put t ls (run_of s t ls (few ls some) h)

    abbrev Stopped : Fault → List (List ℕ) → Type 0
    Stopped e ls = StopsAtLast (AnswersLine shows state) s ls e t

    -- a line doesn't stop a run as a source does
    never : (e : Fault) → ((ls : List (List ℕ)) → length ls ≤ fills * chunk_len → Stopped e ls → ⊥) → AtLine fills old new (Stopped e) → ⊥
    never e impossible h = elim (AtLine-weaker fills old new (Stopped e) (λ ls. ⊥) impossible h) [ inl x ↦ x.done | inr x ↦ x.done ]

    read_until : (fault : ReadFault) → ReadUntil (AnswersLine shows state) fills old new s t fault → AnswersOrEnds (Shown s) fills old new sink sink' (Err (fault_of_read fault))
    read_until read.Memory h = inl (h.0, ap (λ (x : Answering A K). state x.sink.now) h.1)
    read_until read.Read h = AtFault-weaker fills old new (λ ls. TakesAll (AnswersLine shows state) s ls t) (PutsLines (Shown s) sink sink') all_lines h
    read_until read.Endless h = AtNoEnd-weaker fills old new (λ ls. TakesAll (AnswersLine shows state) s ls t) (PutsLines (Shown s) sink sink') all_lines h

    stopped_until : (e : Fault) → AtLine fills old new (Stopped e) → AnswersOrEnds (Shown s) fills old new sink sink' (Err e)
    stopped_until Write h =
        AtLine-weaker fills old new (Stopped Write) (λ ls. PutsFrontOfText (LinesShown (Shown s) 1 ls) sink sink') (λ ls some x. front_from_one ls (cut_of s t ls (few ls some) x)) h
    stopped_until Memory h = inr (AtLine-weaker fills old new (Stopped Memory) (PutsButLast (Shown s) sink sink') but_last h)
    stopped_until Read h = absurd (never Read (λ ls some x. x.5.puts) h)
    stopped_until Endless h = absurd (never Endless (λ ls some x. x.5.puts) h)

    abbrev Until : Fault → Type 0
    Until = TakesUntil (λ fault e. e ≡ fault_of_read fault) (either (AnswersLine shows state)) fills old new s t

    taken_until : (e : Fault) → Until e
        → ((fault : ReadFault) × (e ≡ fault_of_read fault) × ReadUntil (AnswersLine shows state) fills old new s t fault) ⊎ AtLine fills old new (Stopped e)
    taken_until e = takes-until (AnswersLine shows state) (λ fault e. e ≡ fault_of_read fault) fills old new s t e

    pub until_of : (e : Fault) → Until e → AnswersOrEnds (Shown s) fills old new sink sink' (Err e)
    until_of e h = elim (taken_until e h) [
      | inl x ↦ subst (λ (fault : Fault). AnswersOrEnds (Shown s) fills old new sink sink' (Err fault)) (sym x.1) (read_until x.0 x.2)
      | inr x ↦ stopped_until e x
    ]

    kept_all : (ls : List (List ℕ)) → length ls ≤ fills * chunk_len → TakesAll (AnswersLine shows state) s ls t → Keeps s t
    kept_all ls some h = (run_of s t ls (few ls some) h).keeps

    abbrev KeepsOf : List (List ℕ) → Type 0
    KeepsOf ls = Keeps s t

    kept_read : (fault : ReadFault) → ReadUntil (AnswersLine shows state) fills old new s t fault → Keeps s t
    kept_read read.Memory h = subst (λ (x : Answering A K). Keeps s x) (sym h.1) (kept s)
    kept_read read.Read h = (AtFault-weaker fills old new (λ ls. TakesAll (AnswersLine shows state) s ls t) KeepsOf kept_all h).done
    kept_read read.Endless h = (AtNoEnd-weaker fills old new (λ ls. TakesAll (AnswersLine shows state) s ls t) KeepsOf kept_all h).done

    lent_at : AtLine fills old new KeepsOf → t.sink.ghost_name ≡ s.sink.ghost_name
    lent_at (inl h) = h.done.lent
    lent_at (inr h) = h.done.lent

    pub lent_until : (e : Fault) → Until e → t.sink.ghost_name ≡ s.sink.ghost_name
    lent_until e h = elim (taken_until e h) [
      | inl x ↦ (kept_read x.0 x.2).lent
      | inr x ↦ lent_at (AtLine-weaker fills old new (Stopped e) KeepsOf (λ ls some y. kept_at_stop s t ls (few ls some) e y) x)
    ]

    pub lent_of : TakesLines → t.sink.ghost_name ≡ s.sink.ghost_name
    lent_of h = (at_end h).done.keeps.lent

-- all lines were answered, and what was put was handed on
pub flushed_all : (shown : ℕ → List ℕ → Verdict → Type 0) (fills : ℕ) (old new : SourceState) (k l m : SinkState) (answer : Bool) (v : Unit {0})
    → AtEnd fills old new (λ ls. PutsText (LinesShown shown 1 ls) k l answer) → AwaitsFlush k l → Flush {E = Failed} l m (Ok v)
    → AnswersOrEnds shown fills old new k m (Ok answer)
flushed_all shown fills old new k l m answer v h awaits flush = (
  AtEnd-weaker fills old new (λ ls. PutsText (LinesShown shown 1 ls) k l answer) (λ ls. PutsText (LinesShown shown 1 ls) k m answer)
      (λ ls some text. record { out = text.out; judged = text.judged; put = Appends-kept _ _ _ _ text.put flush.bytes }) h,
  flushed_once k l m v awaits flush,
)

-- all lines were answered, and what was put couldn't be handed on
pub unflushed : (shown : ℕ → List ℕ → Verdict → Type 0) (fills : ℕ) (old new : SourceState) (k l m : SinkState) (answer : Bool) (e : Failed)
    → AtEnd fills old new (λ ls. PutsText (LinesShown shown 1 ls) k l answer) → AwaitsFlush k l → Flush {E = Failed} l m (Err e)
    → AnswersOrEnds shown fills old new k m (Err Write)
unflushed shown fills old new k l m answer e h awaits flush =
    let text = h.done in inr (record {
      came = h.came;
      reads = h.reads;
      done = record {
        answer = answer;
        out = text.out;
        judged = text.judged;
        count = length text.out;
        put = subst (λ bytes. Appends k.bytes m.bytes bytes) (sym (take-length text.out)) (Appends-kept _ _ _ _ text.put flush.bytes);
        fails = flush.failed;
        flushes = flush.flushes ∙ not_flushed k l awaits;
      };
    })
