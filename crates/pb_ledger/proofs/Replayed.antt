-- From the lines that the replayer took to what was replayed.
use Rattle.std.proofs.Common.{◌≡◌, ◌≢◌, ◌∙◌, ℕ, Bool, true, false, List, [], ◌∷◌, ◌++◌, Option, Bor, MutBor, Result, Ok, Err, All, ap, inl, inr, refl, subst, sym}
use Rattle.std.specs.Prelude.{MatchOption}
use Rattle.std.proofs.lemmas.List.Elements.{All-cons, All-nil}
use Rattle.pb_io.specs.Sink.{SinkState, Writes}
use Rattle.pb_io.specs.Source.{SourceState}
use Rattle.pb_io.specs.Lines.{IsLine, ended_lines, last_piece}
use Rattle.pb_io.specs.LineTask.{ReadUntil, TakesAll, TakesStream, TakesUntil, ended}
use Rattle.pb_io.specs.Fault.{fault_of_read}
use Rattle.pb_io.specs.declared.fault.Fault.{Fault}
use Rattle.pb_io.specs.declared.fault.Fault.TheVariants as fault
use Rattle.pb_io.specs.declared.fault.ReadFault.{ReadFault}
use Rattle.pb_io.specs.declared.fault.ReadFault.TheVariants as read
use Rattle.pb_io.specs.declared.source.Failed.{Failed}
use Rattle.pb_games.specs.declared.refusal.Refusal.{Refusal}
use Rattle.pb_games.specs.declared.refusal.Refusal.TheVariants as refusal
use Rattle.pb_accepted.specs.Accepting.{Answer, Run, Step, answer_of}
use Rattle.pb_accepted.specs.declared.ledger.Accepted.{Accepted}
use Rattle.pb_accepted.specs.Ledger.{KeepsRest, LedgerState}
use Rattle.pb_accepted.proofs.Steps.{refusal_step}
use Rattle.pb_ledger.specs.Journal.{Replays, seal, ReplaysLine, Stops, submits, unended, HoldsAll, ReplaysAll, ReplaysUntil}
use Rattle.pb_ledger.specs.Change.{Wants, SameLedger, from_to}
use Rattle.pb_ledger.specs.declared.journal.Replayer.{Replayer}
use Rattle.pb_ledger.proofs.Answering.{step_by}
use Rattle.pb_ledger.proofs.Failures.{writes_so}
use Rattle.pb_ledger.proofs.Loaded.{SameLedger-refl, SameLedger-then}
use Rattle.pb_ledger.proofs.Torn.{noted}

pub stops_taken : (n : ℕ) → Stops (Ok n) (Ok tt)
stops_taken n = λ q. (cc)

pub stops_refused : (e : Refusal) → e ≢ refusal.Memory → Stops (Err e) (Ok tt)
stops_refused e other = λ q. other (cc)

module _ {T W : Type 0} where
  -- what submitting a line leaves
  pub submitted_so : (s : Replayer T W) (ledger : LedgerState) (watcher : MutBor W) (n : ℕ) (line : Option (Bor (List ℕ))) (whole : List ℕ) (is_ended : Bool) (full : Result Accepted Refusal)
      (result : Result (Unit {0}) Fault) → is_ended ≡ true → IsLine line whole
      → MatchOption line ((full ≡ Err refusal.Long) × (ledger ≡ s.ledger.now)) (λ bytes. Step s.ledger.now.cap s.ledger.now.accepted bytes.now (answer_of full) ledger.accepted)
      → KeepsRest s.ledger.now ledger → Stops (answer_of full) result
      → ReplaysLine s whole is_ended result (record { ledger = record s.ledger { now = ledger }; watcher = watcher; lines = n; is_torn = s.is_torn })
  submitted_so s ledger watcher n line whole is_ended full result ends is step rest stops =
      submits ends (record { answer = answer_of full; step = step_by s.ledger.now ledger line whole full is step; stops = stops; keeps = record { lent = refl; rest = rest }; whole = refl })

  abbrev takes : Replayer T W → List ℕ → Result (Unit {0}) Fault → Replayer T W → Type 0
  takes = ended ReplaysLine

  -- lines that LFs ended were submitted, none of them refused for want of memory
  pub record Taken (s t : Replayer T W) (ls : List (List ℕ)) : Type 0 where
    pub answers : List Answer
    pub run : Run s.ledger.now.cap s.ledger.now.accepted ls answers t.ledger.now.accepted
    pub remembered : All (λ r. r ≢ Err refusal.Memory) answers
    pub keeps : SameLedger s.ledger t.ledger
    pub whole : t.is_torn ≡ s.is_torn

  Taken-none : (s : Replayer T W) → Taken s s []
  Taken-none s = record { answers = []; run = refl; remembered = All-nil (λ r. r ≢ Err refusal.Memory); keeps = SameLedger-refl s.ledger; whole = refl }

  Taken-more : (s m t : Replayer T W) (line : List ℕ) (ls : List (List ℕ)) → ReplaysLine s line true (Ok tt) m → Taken m t ls → Taken s t (line ∷ ls)
  Taken-more s m t line ls (submits is one) rest = record {
    answers = one.answer ∷ rest.answers;
    run = (m.ledger.now.accepted, one.step, subst (λ most. Run most m.ledger.now.accepted ls rest.answers t.ledger.now.accepted) (ap (λ (l : LedgerState). l.cap) one.keeps.rest) rest.run);
    remembered = All-cons (λ r. r ≢ Err refusal.Memory) one.answer rest.answers one.stops rest.remembered;
    keeps = SameLedger-then s.ledger m.ledger t.ledger one.keeps rest.keeps;
    whole = rest.whole ∙ one.whole;
  }
  Taken-more s m t line ls (unended bad ok is) rest = cc

  taken : (s t : Replayer T W) (ls : List (List ℕ)) → TakesAll takes s ls t → Taken s t ls
  taken s t [] h = subst (λ (x : Replayer T W). Taken s x []) (sym h) (Taken-none s)
  taken s t (line ∷ ls) h = Taken-more s h.0 t line ls h.1 (taken h.0 t ls h.2)

  -- bytes after the last LF are noted
  notes : (s t : Replayer T W) (piece : List ℕ) (answer : Result (Unit {0}) Fault) → ReplaysLine s piece false answer t
      → (answer ≡ Ok tt) × (t.is_torn ≡ true) × (t.ledger ≡ s.ledger)
  notes s t piece answer (submits bad one) = cc
  notes s t piece answer (unended is ok same) = (ok, ap (λ (x : Replayer T W). x.is_torn) same, ap (λ (x : Replayer T W). x.ledger) same)

  -- ---- from no games on

  module _ (s t : Replayer T W) (fresh : s.ledger.now.accepted ≡ []) where
    replayed : (ls : List (List ℕ)) → Taken s t ls → Replays s.ledger.now.cap ls t.ledger.now.accepted
    replayed ls all = record {
      answers = all.answers;
      run = subst (λ A. Run s.ledger.now.cap A ls all.answers t.ledger.now.accepted) fresh all.run;
      remembered = all.remembered;
    }

  -- ---- the whole of a stream

  module _ (fills : ℕ) (old new : SourceState) (s t : Replayer T W) (fresh : s.ledger.now.accepted ≡ []) where
    abbrev Ends : Fault → Type 0
    Ends e = (j : SinkState) → ReplaysUntil fills (from_to old new) (from_to j j) (from_to s.ledger.now t.ledger.now) e

    -- by a fault of reading
    unread : (read : ReadFault) → ReadUntil takes fills old new s t read → Ends (fault_of_read read) × SameLedger s.ledger t.ledger
    unread read.Read h =
        let all = taken s t (ended_lines h.came) h.done in
        (λ j. (record { came = h.came; reads = h.reads; done = replayed s t fresh (ended_lines h.came) all }, refl), all.keeps)
    unread read.Endless h =
        let all = taken s t (ended_lines h.came) h.done in
        (λ j. (record { came = h.came; reads = h.reads; done = replayed s t fresh (ended_lines h.came) all }, refl), all.keeps)
    unread read.Memory h = (
      λ j. (inl (h.0, ap (λ (x : Replayer T W). x.ledger.now) h.1), refl),
      subst (λ (x : Replayer T W). SameLedger s.ledger x.ledger) (sym h.1) (SameLedger-refl s.ledger),
    )

    -- the line that stopped the replayer brings a new game, and no memory was left for it
    stopped : (ls before : List (List ℕ)) (line : List ℕ) (m : Replayer T W) (e : Fault) → ls ≡ before ++ line ∷ [] → Taken s m before → ReplaysLine m line true (Err e) t
        → (e ≡ fault.Memory) × Wants Replays (from_to s.ledger.now t.ledger.now) ls × SameLedger s.ledger t.ledger
    stopped ls before line m e are all (submits is one) =
        let step = subst (λ r. Step m.ledger.now.cap m.ledger.now.accepted line r t.ledger.now.accepted) one.stops.0 one.step in
        let same : t.ledger.now.accepted ≡ m.ledger.now.accepted = refusal_step m.ledger.now.cap m.ledger.now.accepted line refusal.Memory t.ledger.now.accepted step in
        let here = subst (λ most. Step most m.ledger.now.accepted line (Err refusal.Memory) t.ledger.now.accepted) (ap (λ (l : LedgerState). l.cap) all.keeps.rest) step in (
          one.stops.1,
          record {
            before = before;
            line = line;
            are = are;
            done = (
              subst (λ B. Replays s.ledger.now.cap before B) (sym same) (replayed s m fresh before all),
              subst (λ B. Step s.ledger.now.cap B line (Err refusal.Memory) t.ledger.now.accepted) (sym same) here,
            );
          },
          SameLedger-then s.ledger m.ledger t.ledger all.keeps one.keeps,
        )
    stopped ls before line m e are all (unended bad ok is) = let bad : Err e ≡ Ok tt = ok in cc

    module _ (whole : s.is_torn ≡ false) where
      -- the stream was read to its end
      read_on : (answer : Result (Unit {0}) Fault) → TakesStream ReplaysLine fills old new s answer t
          → (answer ≡ Ok tt) × HoldsAll fills (from_to old new) (from_to s.ledger.now t.ledger.now) t.is_torn × SameLedger s.ledger t.ledger
      read_on answer h =
          let m = h.taken.middle in let all = taken s m (ended_lines h.came) h.taken.lines in
          let end = noted ReplaysLine (λ (x : Replayer T W). x.is_torn) (λ (x : Replayer T W). x.ledger) notes m t (last_piece h.came) answer (all.whole ∙ whole) h.taken.torn in (
            end.ok,
            record {
              came = h.came;
              reads = h.reads;
              done = (subst (λ (x : MutBor LedgerState). Replays s.ledger.now.cap (ended_lines h.came) x.now.accepted) (sym end.same) (replayed s m fresh (ended_lines h.came) all), end.is);
            },
            subst (λ (x : MutBor LedgerState). SameLedger s.ledger x) (sym end.same) all.keeps,
          )

      pub holds_all : TakesStream ReplaysLine fills old new s (Ok tt) t
          → HoldsAll fills (from_to old new) (from_to s.ledger.now t.ledger.now) t.is_torn × SameLedger s.ledger t.ledger
      holds_all h = let all = read_on (Ok tt) h in (all.1, all.2)

      pub until : (e : Fault) → TakesUntil (λ read gives. gives ≡ fault_of_read read) ReplaysLine fills old new s t e → Ends e × SameLedger s.ledger t.ledger
      until e (inl (inl k)) = let ends = unread k.0 k.2 in (subst Ends (sym k.1) ends.0, ends.1)
      until e (inl (inr k)) =
          let h = k.done in let last = stopped (ended_lines k.came) h.0 h.1 h.2 e h.3 (taken s h.2 h.0 h.4) h.5 in
          (subst Ends (sym last.0) (λ j. (inr (record { came = k.came; reads = k.reads; done = last.1 }), refl)), last.2)
      until e (inr k) = let no : Err e ≡ Ok tt = (read_on (Err e) k).0 in cc

-- ---- the end of the journal

module _ (fills : ℕ) (source source' : SourceState) (ledger ledger' : LedgerState) (torn : Bool) (holds : HoldsAll fills (from_to source source') (from_to ledger ledger') torn) where
  -- it isn't torn
  pub stays : torn ≡ false → (journal : SinkState) → ReplaysAll fills (from_to source source') (from_to journal journal) (from_to ledger ledger')
  stays whole journal = inl (subst (HoldsAll fills (from_to source source') (from_to ledger ledger')) whole holds, refl)

  module _ (is : torn ≡ true) (journal journal' : SinkState) where
    held : HoldsAll fills (from_to source source') (from_to ledger ledger') true
    held = subst (HoldsAll fills (from_to source source') (from_to ledger ledger')) is holds

    -- it was sealed
    pub seals : Writes {E = Failed} journal journal' (Ok tt) seal → ReplaysAll fills (from_to source source') (from_to journal journal') (from_to ledger ledger')
    seals h = inr (held, writes_so journal journal' seal h)

    -- it couldn't be sealed
    pub seals_not : Writes {E = Fault} journal journal' (Err fault.Write) seal → ReplaysUntil fills (from_to source source') (from_to journal journal') (from_to ledger ledger') fault.Write
    seals_not h = (held, h)
