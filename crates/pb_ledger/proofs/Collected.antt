-- What the collector does with a line, and from the lines that it took to what was collected, and to
-- what the journal gained.
use Rattle.std.proofs.Common.{◌≡◌, ℕ, ◌⊎◌, true, false, List, [], ◌∷◌, length, nat_lt, Option, None, Some, Bor, MutBor, Result, Ok, Err, IfErr, refl, sym, ap, ◌∙◌, subst, inl, inr, arith, ◌≤◌, ◌+◌, ◌^◌, ◌<◌, Bool, cond, ◌++◌}
use Rattle.std.specs.Prelude.{MatchOption, unwrap_or, count_by, is_err}
use Rattle.std.proofs.lemmas.Bool.{lt-ltb, ltb-true}
use Rattle.std.specs.Str.Lines.{strip_carriage_return}
use Rattle.pb_board.specs.LineEnd.{with_end}
use Rattle.pb_io.specs.Lines.{IsLine, lines, ended_lines}
use Rattle.pb_io.specs.Sink.{Put, SinkState, Writes, AwaitsFlush, Flush}
use Rattle.pb_io.specs.declared.fault.Fault.{Fault}
use Rattle.pb_io.specs.declared.fault.Fault.TheVariants.{Write}
use Rattle.pb_io.specs.declared.source.Failed.{Failed}
use Rattle.pb_games.specs.declared.refusal.Refusal.TheVariants.{Long}
use Rattle.pb_games.specs.declared.refusal.Refusal.{Refusal}
use Rattle.pb_accepted.specs.Accepting.{Answer, Step, answer_of, says_new, named, reply_line, Run}
use Rattle.pb_accepted.specs.declared.ledger.Accepted.{Accepted}
use Rattle.pb_accepted.specs.Ledger.{KeepsRest, LedgerState}
use Rattle.pb_accepted.proofs.Steps.{named_step, runs_join}
use Rattle.pb_ledger.specs.Collecting.{Leads, CollectsLine, answered, with_answer, Gains, Unkept, Collects, CollectsButOne, CollectsStream, CollectsUntil, SameLent, ungained, CollectsUnkept, JournalsUntil}
use Rattle.pb_ledger.specs.declared.collecting.Collector.{Collector}
use Rattle.pb_ledger.specs.Change.{from_to, AtLast}
use Rattle.pb_ledger.proofs.Failures.{writes_not}
use Rattle.pb_ledger.proofs.Gaining.{Brings, Gains-kept, Gains-one, brought, unchanged, Gains-none, Gains-trans}
use Rattle.pb_ledger.proofs.Answering.{Leads-one, step_by, added, grows, step_of}
use Rattle.std.proofs.lemmas.List.Sums.{sum_by-cons}
use Rattle.std.proofs.KnownBytes.{Appends-nil, Appends-trans, Appends-kept}
use Rattle.pb_io.specs.Count.{next_count}
use Rattle.pb_io.specs.Source.{SourceState}
use Rattle.pb_io.proofs.FlushLemmas.{AwaitsFlush-put, AwaitsFlush-trans, not_flushed}
use Rattle.pb_io.specs.Fault.{fault_of_read}
use Rattle.pb_io.specs.LineTask.{AtEnd, AtLine, ReadUntil, StopsAtLast, TakesAll, TakesStream, TakesUntil, either}
use Rattle.pb_io.specs.declared.fault.ReadFault.{ReadFault}
use Rattle.pb_io.specs.declared.fault.ReadFault.TheVariants.{Memory, Read, Endless}
use Rattle.pb_io.proofs.EndLemmas.{AtEnd-weaker}
use Rattle.pb_io.proofs.TaskLemmas.{takes-lines, takes-until}
use Rattle.pb_ledger.specs.declared.collecting.Totals.{Totals}

-- ---- a line that the collector takes

-- what submitting a line leaves; of a line that is too long nothing is shown
pub record Submitted (l l' : LedgerState) (whole shown : List ℕ) (full : Result Accepted Refusal) : Type 0 where
  pub step : Step l.cap l.accepted whole (answer_of full) l'.accepted
  pub grown : says_new full ≡ nat_lt (length l.accepted) (length l'.accepted)
  pub basis : l'.basis ≡ l.basis
  pub cap : l'.cap ≡ l.cap
  pub shows : (shown ≡ whole) ⊎ (answer_of full ≡ Err Long)

module _ (l l' : LedgerState) (line : Option (Bor (List ℕ))) (full : Result Accepted Refusal)
    (step : MatchOption line ((full ≡ Err Long) × (l' ≡ l)) (λ bytes. Step l.cap l.accepted bytes.now (answer_of full) l'.accepted)) where
  pub submitted : (none shown : Bor (List ℕ)) (whole : List ℕ) → IsLine line whole → shown ≡ unwrap_or line none
      → says_new full ≡ nat_lt (length l.accepted) (length l'.accepted) → KeepsRest l l' → Submitted l l' whole shown.now full
  submitted none shown whole is shows grown rest = record {
    step = step_by l l' line whole full is step;
    grown = grown;
    basis = ap (λ (x : LedgerState). x.basis) rest;
    cap = ap (λ (x : LedgerState). x.cap) rest;
    shows = by_line line is shows step;
  }
    where
      by_line : (line : Option (Bor (List ℕ))) → IsLine line whole → shown ≡ unwrap_or line none
          → MatchOption line ((full ≡ Err Long) × (l' ≡ l)) (λ bytes. Step l.cap l.accepted bytes.now (answer_of full) l'.accepted)
          → (shown.now ≡ whole) ⊎ (answer_of full ≡ Err Long)
      by_line None long shows h = inr (ap answer_of h.0)
      by_line (Some bytes) same shows h = inl (ap (λ (b : Bor (List ℕ)). b.now) shows ∙ same.0)

  -- the id that the reply names is short
  pub named_shortly : (none : Bor (List ℕ)) → length (named (unwrap_or line none).now (answer_of full)) ≤ 64
  named_shortly none = by_line line step
    where
      by_line : (line : Option (Bor (List ℕ))) → MatchOption line ((full ≡ Err Long) × (l' ≡ l)) (λ bytes. Step l.cap l.accepted bytes.now (answer_of full) l'.accepted)
          → length (named (unwrap_or line none).now (answer_of full)) ≤ 64
      by_line None h = rw h.0 (omega arith)
      by_line (Some bytes) h = named_step l.cap l.accepted bytes.now (answer_of full) l'.accepted h

module _ (l l' : LedgerState) (whole shown : List ℕ) (full : Result Accepted Refusal) (h : Submitted l l' whole shown full) where
  abbrev answer : Answer
  answer = answer_of full

  -- the reply is that to the line
  pub same_reply : reply_line whole answer ≡ reply_line shown answer
  same_reply = elim h.shows [
    | inl same ↦ ap (λ x. reply_line x answer) (sym same)
    | inr long ↦ ap (λ r. reply_line whole r) long ∙ sym (ap (λ r. reply_line shown r) long)
  ]

  -- a game that is new
  came : says_new full ≡ true → Brings l.accepted whole answer l'.accepted
  came new = brought l.cap l.accepted whole answer l'.accepted h.step (ltb-true (length l.accepted) (length l'.accepted) (sym h.grown ∙ new))

  spelled : (new : says_new full ≡ true) → strip_carriage_return shown ≡ strip_carriage_return whole
  spelled new = elim h.shows [
    | inl same ↦ ap strip_carriage_return same
    | inr long ↦ let answers = (came new).answered in cc
  ]

  abbrev Wrote : {E : Type 0} → SinkState → SinkState → Result (Unit {0}) E → Type 0
  Wrote j j' result = Writes j j' result (with_end (strip_carriage_return shown))

  -- it is on the journal
  pub gained : (j j' : SinkState) (u : Unit {0}) → (says_new full ≡ true → Wrote {E = Failed} j j' (Ok u)) → (says_new full ≡ false → j' ≡ j) → Gains (from_to j j') (from_to l l')
  gained j j' u wrote untouched = elim (says_new full) as (λ b. says_new full ≡ b → Gains (from_to j j') (from_to l l')) [
    | true ↦ λ new. let c = came new in Gains-one j j' l l' c.game (strip_carriage_return shown) u c.games (spelled new ∙ c.spells) (wrote new)
    | false ↦ λ old. subst (λ (x : SinkState). Gains (from_to j x) (from_to l l')) (sym (untouched old))
        (Gains-kept j l l' (unchanged l.cap l.accepted whole answer l'.accepted h.step (λ more. let is = lt-ltb (length l.accepted) (length l'.accepted) more in let grown = h.grown in cc)))
  ] refl

  abbrev Done : Result (Unit {0}) Failed → Type 0
  Done result = result ≡ Ok tt

  -- the journal has failed at it
  pub not_kept : (j j' : SinkState) (e : Failed) → (says_new full ≡ true → Wrote j j' (Err e)) → (says_new full ≡ false → Done (Err e)) → Unkept (from_to j j') (from_to l l') whole
  not_kept j j' e wrote untouched = elim (says_new full) as (λ b. says_new full ≡ b → Unkept (from_to j j') (from_to l l') whole) [
    | true ↦ λ new. let c = came new in record {
      number = c.number;
      leads = subst (λ (r : Answer). Leads l l' (whole ∷ []) (r ∷ [])) c.answered (Leads-one l l' whole answer h.step h.basis h.cap);
      game = c.game;
      brings = c.games;
      breaks = subst (λ text. Writes j j' (Err Write) (with_end text)) (spelled new ∙ c.spells) (writes_not j j' e Write _ (wrote new));
    }
    | false ↦ λ old. let no = untouched old in cc
  ] refl

-- the line was answered, or its reply couldn't be put
pub answered_so : {T K J W : Type 0} (state : K → SinkState) (kept : J → SinkState) (s t : Collector T K J W) (l' : LedgerState) (j' : J) (whole shown : List ℕ) (full : Result Accepted Refusal)
    (result : Result (Unit {0}) Fault) → Submitted s.ledger.now l' whole shown full
    → (says_new full ≡ true → Writes {E = Failed} (kept s.journal.now) (kept j') (Ok tt) (with_end (strip_carriage_return shown))) → (says_new full ≡ false → j' ≡ s.journal.now)
    → t.totals ≡ with_answer s.totals (answer_of full) (says_new full) → Put (state s.sink.now) (state t.sink.now) result (reply_line shown (answer_of full))
    → IfErr result (λ (e : Fault). e ≡ Write) → t.sink.ghost_name ≡ s.sink.ghost_name → t.ledger ≡ record s.ledger { now = l' } → t.journal ≡ record s.journal { now = j' }
    → CollectsLine state kept s whole result t
answered_so {T} {K} {J} {W} state kept s t l' j' whole shown full result h wrote untouched counted put stops sink ledger journal =
    let ledger_now = ap (λ (x : MutBor LedgerState). x.now) ledger in let journal_now = ap (λ (x : MutBor J). x.now) journal in
    answered (record {
      answer = answer_of full;
      leads = subst (λ (x : LedgerState). Leads s.ledger.now x (whole ∷ []) (answer_of full ∷ [])) (sym ledger_now) (Leads-one s.ledger.now l' whole (answer_of full) h.step h.basis h.cap);
      counted = counted ∙ ap (λ b. with_answer s.totals (answer_of full) b) (h.grown ∙ ap (λ (x : LedgerState). nat_lt (length s.ledger.now.accepted) (length x.accepted)) (sym ledger_now));
      put = subst (Put (state s.sink.now) (state t.sink.now) result) (sym (same_reply s.ledger.now l' whole shown full h)) put;
      gains = subst (λ (x : J). Gains (from_to (kept s.journal.now) (kept x)) (from_to s.ledger.now t.ledger.now)) (sym journal_now)
          (subst (λ (x : LedgerState). Gains (from_to (kept s.journal.now) (kept j')) (from_to s.ledger.now x)) (sym ledger_now)
          (gained s.ledger.now l' whole shown full h (kept s.journal.now) (kept j') tt wrote (λ old. ap kept (untouched old))));
    }) stops (record { ledger = ap (λ (x : MutBor LedgerState). x.ghost_name) ledger; sink = sink; journal = ap (λ (x : MutBor J). x.ghost_name) journal })

-- ---- counts

abbrev pub AddsUp : Totals → Type 0
AddsUp t = t.lines ≡ t.new + t.repeats + t.refused

-- totals that grew by so many lines and so many refusals, and a list that grew by the new games
pub record Grows (games games' : ℕ) (s t : Totals) (more refusals : ℕ) : Type 0 where
  pub all : t.lines ≡ s.lines + more
  pub refused : t.refused ≡ s.refused + refusals
  pub new_games : games' + s.new ≡ games + t.new
  pub adds_up : AddsUp t

one_counted : (games games' : ℕ) (s t : Totals) (answer : Answer) (is_new : Bool) → t ≡ with_answer s answer is_new → games' ≡ games + added answer is_new
    → AddsUp s → s.lines + 1 < 2 ^ 64 → Grows games games' s t 1 (cond (is_err answer) 1 0)
one_counted games games' s t (Ok n) true is grown sum few =
    let all = ap (λ (x : Totals). x.lines) is in let new_games = ap (λ (x : Totals). x.new) is in
    let repeats = ap (λ (x : Totals). x.repeats) is in let refused = ap (λ (x : Totals). x.refused) is in
    record { all = omega arith; refused = omega arith; new_games = omega arith; adds_up = omega arith }
one_counted games games' s t (Ok n) false is grown sum few =
    let all = ap (λ (x : Totals). x.lines) is in let new_games = ap (λ (x : Totals). x.new) is in
    let repeats = ap (λ (x : Totals). x.repeats) is in let refused = ap (λ (x : Totals). x.refused) is in
    record { all = omega arith; refused = omega arith; new_games = omega arith; adds_up = omega arith }
one_counted games games' s t (Err e) is_new is grown sum few =
    let all = ap (λ (x : Totals). x.lines) is in let new_games = ap (λ (x : Totals). x.new) is in
    let repeats = ap (λ (x : Totals). x.repeats) is in let refused = ap (λ (x : Totals). x.refused) is in
    record { all = omega arith; refused = omega arith; new_games = omega arith; adds_up = omega arith }

more_refused : (answer : Answer) (R : List Answer) → count_by is_err (answer ∷ R) ≡ cond (is_err answer) 1 0 + count_by is_err R
more_refused answer R = sum_by-cons (λ r. cond (is_err r) 1 0) answer R

-- ---- lines that lead from one ledger to another

Leads-none : (ledger : LedgerState) → Leads ledger ledger [] []
Leads-none ledger = record { run = refl; basis = refl; cap = refl }

Leads-more : (a b c : LedgerState) (line : List ℕ) (answer : Answer) (L : List (List ℕ)) (R : List Answer)
    → Leads a b (line ∷ []) (answer ∷ []) → Leads b c L R → Leads a c (line ∷ L) (answer ∷ R)
Leads-more a b c line answer L R one rest = record {
  run = (b.accepted, step_of a b line answer one, subst (λ most. Run most b.accepted L R c.accepted) one.cap rest.run);
  basis = rest.basis ∙ one.basis;
  cap = rest.cap ∙ one.cap;
}

Leads-then : (a b c : LedgerState) (K L : List (List ℕ)) (Q R : List Answer) → Leads a b K Q → Leads b c L R → Leads a c (K ++ L) (Q ++ R)
Leads-then a b c K L Q R first next = record {
  run = runs_join a.cap a.accepted b.accepted c.accepted K L Q R first.run (subst (λ most. Run most b.accepted L R c.accepted) first.cap next.run);
  basis = next.basis ∙ first.basis;
  cap = next.cap ∙ first.cap;
}

module _ {T K J W : Type 0} (state : K → SinkState) (kept : J → SinkState) where
  abbrev Sink : Collector T K J W → SinkState
  Sink s = state s.sink.now

  abbrev Journal : Collector T K J W → SinkState
  Journal s = kept s.journal.now

  abbrev GainsTo : Collector T K J W → Collector T K J W → Type 0
  GainsTo s t = Gains (from_to (Journal s) (Journal t)) (from_to s.ledger.now t.ledger.now)

  SameLent-refl : (s : Collector T K J W) → SameLent s s
  SameLent-refl s = record { ledger = refl; sink = refl; journal = refl }

  SameLent-trans : (s m t : Collector T K J W) → SameLent s m → SameLent m t → SameLent s t
  SameLent-trans s m t first next =
      record { ledger = next.ledger ∙ first.ledger; sink = next.sink ∙ first.sink; journal = next.journal ∙ first.journal }

  -- ---- lines that were taken

  -- they gave these answers
  pub record Taken (s t : Collector T K J W) (ls : List (List ℕ)) : Type 0 where
    pub collects : Collects (from_to (Sink s) (Sink t)) (from_to s.ledger.now t.ledger.now) ls
    pub counts : AddsUp s.totals → s.totals.lines + length ls < 2 ^ 64
        → Grows (length s.ledger.now.accepted) (length t.ledger.now.accepted) s.totals t.totals (length ls) (count_by is_err collects.answers)
    pub awaits : AwaitsFlush (Sink s) (Sink t)
    pub gains : GainsTo s t
    pub same : SameLent s t

  Taken-none : (s : Collector T K J W) → Taken s s []
  Taken-none s = record {
    collects = record { answers = []; leads = Leads-none s.ledger.now; put = Appends-nil (Sink s).bytes };
    counts = λ sum few. record { all = omega arith; refused = omega arith; new_games = omega arith; adds_up = sum };
    awaits = inl refl;
    gains = Gains-none (Journal s) s.ledger.now;
    same = SameLent-refl s;
  }

  Taken-more : (s m t : Collector T K J W) (line : List ℕ) (ls : List (List ℕ)) → CollectsLine state kept s line (Ok tt) m → Taken m t ls → Taken s t (line ∷ ls)
  Taken-more s m t line ls (answered one stops same) rest = record {
    collects = record {
      answers = one.answer ∷ rest.collects.answers;
      leads = Leads-more s.ledger.now m.ledger.now t.ledger.now line one.answer ls rest.collects.answers one.leads rest.collects.leads;
      put = Appends-trans _ _ _ _ _ one.put.all rest.collects.put;
    };
    counts = λ sum few.
        let grown = grows s.ledger.now.cap s.ledger.now.accepted line one.answer m.ledger.now.accepted (step_of s.ledger.now m.ledger.now line one.answer one.leads) in
        let first = one_counted _ _ s.totals m.totals one.answer _ one.counted grown sum (omega (arith, few)) in
        let others = rest.counts first.adds_up (omega (arith, few, first.all)) in
        let refusals = more_refused one.answer rest.collects.answers in record {
          all = omega (arith, first.all, others.all);
          refused = omega (arith, first.refused, others.refused, refusals);
          new_games = omega (arith, first.new_games, others.new_games);
          adds_up = others.adds_up;
        };
    awaits = AwaitsFlush-trans (Sink s) (Sink m) (Sink t) (AwaitsFlush-put (Sink s) (Sink m) tt (reply_line line one.answer) one.put) rest.awaits;
    gains = Gains-trans _ _ _ _ _ _ one.gains rest.gains;
    same = SameLent-trans s m t same rest.same;
  }
  Taken-more s m t line ls (ungained one fails sink same) rest = cc

  taken_of : (s t : Collector T K J W) (ls : List (List ℕ)) → TakesAll (CollectsLine state kept) s ls t → Taken s t ls
  taken_of s t [] h = subst (λ (x : Collector T K J W). Taken s x []) (sym h) (Taken-none s)
  taken_of s t (line ∷ ls) h = Taken-more s h.0 t line ls h.1 (taken_of h.0 t ls h.2)

  -- ---- the whole of a stream

  module _ (fills : ℕ) (old new : SourceState) (s t : Collector T K J W) where
    abbrev Until : Fault → Type 0
    Until = JournalsUntil fills (from_to old new) (from_to (Sink s) (Sink t)) (from_to (Journal s) (Journal t)) (from_to s.ledger.now t.ledger.now)

    -- by a fault of reading
    unread : (read : ReadFault) → ReadUntil (CollectsLine state kept) fills old new s t read → Until (fault_of_read read) × SameLent s t
    unread Memory h = (
      inl ((h.0, ap (λ (x : Collector T K J W). Sink x) h.1, ap (λ (x : Collector T K J W). x.ledger.now) h.1), subst (λ (x : Collector T K J W). GainsTo s x) (sym h.1) (Gains-none (Journal s) s.ledger.now)),
      subst (λ (x : Collector T K J W). SameLent s x) (sym h.1) (SameLent-refl s),
    )
    unread Read h =
        let all = taken_of s t (ended_lines h.came) h.done in
        (inl ((record { came = h.came; reads = h.reads; done = all.collects }, all.awaits), all.gains), all.same)
    unread Endless h =
        let all = taken_of s t (ended_lines h.came) h.done in
        (inl ((record { came = h.came; reads = h.reads; done = all.collects }, all.awaits), all.gains), all.same)

    -- at the last of these lines, since its reply couldn't be put, or its game was not kept
    module _ (ls : List (List ℕ)) (at : (Q : List (List ℕ) → Type 0) → Q ls → AtLine fills old new Q) where
      stopped_by : (e : Fault) (before : List (List ℕ)) (line : List ℕ) (m : Collector T K J W) → ls ≡ before ++ line ∷ [] → Taken s m before
          → CollectsLine state kept m line (Err e) t → Until e × SameLent s t
      stopped_by e before line m are all (answered last is same) = (
        inl (
          subst (λ (x : Fault). CollectsUntil fills (from_to old new) (from_to (Sink s) (Sink t)) (from_to s.ledger.now t.ledger.now) x) (sym is) (
            inl (at (CollectsButOne (from_to (Sink s) (Sink t)) (from_to s.ledger.now t.ledger.now)) (record {
              before = before;
              line = line;
              are = are;
              done = (
                all.collects.answers,
                last.answer,
                Leads-then s.ledger.now m.ledger.now t.ledger.now before (line ∷ []) all.collects.answers (last.answer ∷ []) all.collects.leads last.leads,
                last.put.front.0,
                Appends-trans _ _ _ _ _ all.collects.put last.put.front.1,
              );
            })),
            (last.put.failed, last.put.flushes ∙ not_flushed (Sink s) (Sink m) all.awaits),
          ),
          Gains-trans _ _ _ _ _ _ all.gains last.gains,
        ),
        SameLent-trans s m t all.same same,
      )
      stopped_by e before line m are all (ungained last fails sink same) = (
        inr (
          (let is : Err e ≡ Err Write = fails in cc),
          at (AtLast (CollectsUnkept (from_to (Sink s) (Sink t)) (from_to (Journal s) (Journal t)) (from_to s.ledger.now t.ledger.now))) (record {
            before = before;
            line = line;
            are = are;
            done = record {
              middle = m.ledger.now;
              kept = Journal m;
              collects = subst (λ (x : MutBor K). Collects (from_to (Sink s) (state x.now)) (from_to s.ledger.now m.ledger.now) before) (sym sink) all.collects;
              gains = all.gains;
              unkept = last;
            };
          }),
          subst (λ (x : MutBor K). AwaitsFlush (Sink s) (state x.now)) (sym sink) all.awaits,
        ),
        SameLent-trans s m t all.same same,
      )

      stopped : (e : Fault) → StopsAtLast (CollectsLine state kept) s ls e t → Until e × SameLent s t
      stopped e h = stopped_by e h.0 h.1 h.2 h.3 (taken_of s h.2 h.0 h.4) h.5

    -- how the lines ended
    pub until : (e : Fault) → TakesUntil (λ read gives. gives ≡ fault_of_read read) (either (CollectsLine state kept)) fills old new s t e → Until e × SameLent s t
    until e h = by (takes-until (CollectsLine state kept) (λ read gives. gives ≡ fault_of_read read) fills old new s t e h)
      where
        by : ((read : ReadFault) × (e ≡ fault_of_read read) × ReadUntil (CollectsLine state kept) fills old new s t read)
            ⊎ AtLine fills old new (λ ls. StopsAtLast (CollectsLine state kept) s ls e t) → Until e × SameLent s t
        by (inl k) = let ends = unread k.0 k.2 in (subst Until (sym k.1) ends.0, ends.1)
        by (inr (inl k)) = stopped (ended_lines k.came) (λ Q q. inl (record { came = k.came; reads = k.reads; done = q })) e k.done
        by (inr (inr k)) = stopped (lines k.came) (λ Q q. inr (record { came = k.came; reads = k.reads; done = q })) e k.done

    -- all were taken
    pub all_taken : TakesStream (either (CollectsLine state kept)) fills old new s (Ok tt) t → AtEnd fills old new (λ ls. Taken s t ls)
    all_taken h =
        let all = takes-lines (CollectsLine state kept) fills old new s t h in
        record { came = all.came; reads = all.reads; done = taken_of s t (lines all.came) all.done }

    -- the ends are what the collector left of them
    module _ (k : K) (j : J) (l : LedgerState) (lent_sink : k ≡ t.sink.now) (lent_journal : j ≡ t.journal.now) (lent_ledger : l ≡ t.ledger.now) where
      left : (P : SinkState → SinkState → LedgerState → Type 0) → P (Sink t) (Journal t) t.ledger.now → P (state k) (kept j) l
      left P h = subst (λ (x : K). P (state x) (kept j) l) (sym lent_sink) (subst (λ (x : J). P (Sink t) (kept x) l) (sym lent_journal) (subst (λ x. P (Sink t) (Journal t) x) (sym lent_ledger) h))

      pub until_left : (e : Fault) → Until e × SameLent s t → JournalsUntil fills (from_to old new) (from_to (Sink s) (state k)) (from_to (Journal s) (kept j)) (from_to s.ledger.now l) e
      until_left e h = left (λ sink journal ledger. JournalsUntil fills (from_to old new) (from_to (Sink s) sink) (from_to (Journal s) journal) (from_to s.ledger.now ledger) e) h.0

      module _ (all : AtEnd fills old new (λ ls. Taken s t ls)) (sink' : SinkState) where
        -- all were taken, and their replies were handed on
        pub collected : (u : Unit {0}) → fills < 2 ^ 32 → s.totals ≡ record { lines = 0; new = 0; repeats = 0; refused = 0 } → Flush {E = Failed} (state k) sink' (Ok u)
            → CollectsStream fills (from_to old new) (from_to (Sink s) sink') (from_to s.ledger.now l) t.totals × Gains (from_to (Journal s) (kept j)) (from_to s.ledger.now l)
        collected u small fresh flush = left (λ sink journal ledger. Flush {E = Failed} sink sink' (Ok u) → CollectsStream fills (from_to old new) (from_to (Sink s) sink') (from_to s.ledger.now ledger) t.totals
            × Gains (from_to (Journal s) journal) (from_to s.ledger.now ledger)) (λ flush. (
              (
                AtEnd-weaker fills old new _ _ (λ ls few taken.
                    let lines_zero = ap (λ (x : Totals). x.lines) fresh in let new_zero = ap (λ (x : Totals). x.new) fresh in
                    let repeats_zero = ap (λ (x : Totals). x.repeats) fresh in let refused_zero = ap (λ (x : Totals). x.refused) fresh in
                    let grows = taken.counts (omega arith) (omega (arith, small, few)) in let c = taken.collects in record {
                      collects = record { answers = c.answers; leads = c.leads; put = Appends-kept _ _ _ _ c.put flush.bytes };
                      all = omega (arith, grows.all);
                      refusals = omega (arith, grows.refused);
                      new_games = omega (arith, grows.new_games);
                      others = grows.adds_up;
                    }) all,
                ((flush.failed, flush.flushed), flush.flushes ∙ ap next_count (not_flushed (Sink s) (Sink t) all.done.awaits)),
              ),
              all.done.gains,
            )) flush

        -- and they couldn't be
        pub unflushed : (e : Failed) → Flush {E = Failed} (state k) sink' (Err e)
            → JournalsUntil fills (from_to old new) (from_to (Sink s) sink') (from_to (Journal s) (kept j)) (from_to s.ledger.now l) Write
        unflushed e flush = left (λ sink journal ledger. Flush {E = Failed} sink sink' (Err e) → JournalsUntil fills (from_to old new) (from_to (Sink s) sink') (from_to (Journal s) journal) (from_to s.ledger.now ledger) Write) (λ flush.
            let c = all.done.collects in
            inl (
              (
                inr (record { came = all.came; reads = all.reads; done = record { answers = c.answers; leads = c.leads; put = Appends-kept _ _ _ _ c.put flush.bytes } }),
                (flush.failed, flush.flushes ∙ not_flushed (Sink s) (Sink t) all.done.awaits),
              ),
              all.done.gains,
            )) flush
