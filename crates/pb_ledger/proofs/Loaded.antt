-- From the lines that the loader took to what was loaded.
use Rattle.std.proofs.Common.{◌≡◌, ◌≢◌, ◌∙◌, ℕ, Bool, true, false, if◌then◌else◌, List, [], ◌∷◌, ◌++◌, Ok, Err, All, IsOk, refl, ap, subst, ◌+◌, ◌*◌, ◌^◌, ◌<◌, ◌≤◌, ◌⊎◌, not, length, Option, None, Some, Result, IsTrue, sym, inl, inr, arith}
use Rattle.std.specs.Prelude.{IsErr, MatchOption, bytes_eq, nat_lt, unwrap_or}
use Rattle.std.proofs.lemmas.List.Elements.{All-head, All-tail, All-cons, All-nil}
use Rattle.pb_games.specs.Submissions.{Submission}
use Rattle.pb_games.specs.declared.refusal.Refusal.TheVariants.{Memory}
use Rattle.pb_accepted.specs.Accepting.{Answer, Run, Step, answer_of}
use Rattle.pb_accepted.specs.Replying.{HaveOwnIds}
use Rattle.pb_accepted.proofs.Replies.{HaveOwnIds-Takes}
use Rattle.pb_accepted.proofs.Steps.{one_step, step_to, refusal_step}
use Rattle.pb_ledger.specs.Saving.{is_header, submission_lines, Judged, LoadsGame, LoadsLine, headed, header, load_error, submission, Breaks, Loads, LoadsUntil, has_header}
use Rattle.std.specs.Borrow.{Bor, MutBor}
use Rattle.std.proofs.lemmas.List.{length_push}
use Rattle.std.proofs.lemmas.Bool.{false_from_ne_true, ltb-false, ltb-true}
use Rattle.std.proofs.lemmas.Slice.Eq.{bytes_eq-Decides}
use Rattle.std.specs.Str.Lines.{strip_carriage_return}
use Rattle.pb_board.proofs.LineEnds.{cases_return}
use Rattle.pb_io.specs.Count.{next_count}
use Rattle.pb_io.specs.Source.{SourceState, chunk_len}
use Rattle.pb_io.specs.Lines.{IsLine, ended_lines, line_limit, lines}
use Rattle.pb_io.specs.LineTask.{AtEnd, AtLine, ReadUntil, StopsAtLast, TakesAll, TakesStream, TakesUntil, either}
use Rattle.pb_io.specs.declared.fault.ReadFault.{ReadFault}
use Rattle.pb_io.specs.declared.fault.ReadFault.TheVariants as fault
use Rattle.pb_io.proofs.EndLemmas.{AtLine-weaker}
use Rattle.pb_io.proofs.TaskLemmas.{takes-lines, takes-until}
use Rattle.pb_games.specs.declared.refusal.Refusal.{Refusal}
use Rattle.pb_games.specs.declared.refusal.Refusal.TheVariants as refusal
use Rattle.pb_accepted.specs.declared.ledger.Accepted.{Accepted}
use Rattle.pb_accepted.specs.Ledger.{KeepsRest, LedgerState}
use Rattle.pb_accepted.proofs.Runs.{HaveOwnIds-nil}
use Rattle.pb_ledger.specs.declared.saving.Loader.{Loader}
use Rattle.pb_ledger.specs.declared.saving.LoadError.{LoadError}
use Rattle.pb_ledger.specs.declared.saving.LoadError.TheVariants as error
use Rattle.pb_ledger.specs.Change.{SameLedger, Makes, Wants, from_to}
use Rattle.pb_ledger.proofs.Answering.{step_by}

-- ---- lines of which the last one makes no game

pub not_both : (r : Answer) → IsOk r → IsErr r → ⊥
not_both (Ok n) ok err = let no : false ≡ true = err in cc
not_both (Err e) ok err = let no : false ≡ true = ok in cc

remembered : (r : Answer) → IsOk r → r ≢ Err Memory
remembered (Ok n) ok = λ q. (cc)
remembered (Err e) ok = let no : false ≡ true = ok in cc

-- where a line leaves what the lines before it made, and memory wasn't wanting, no run of them all
-- makes more, and none is without a refusal unless the line is taken
pub unbroken : (cap : ℕ) (A B C : List Submission) (L : List (List ℕ)) (line : List ℕ) (Q R : List Answer) (r : Answer) → HaveOwnIds A → Run cap A L Q B → All IsOk Q
    → Step cap B line r B → r ≢ Err Memory → Run cap A (L ++ line ∷ []) R C → All IsOk R → IsOk r × (C ≡ B)
unbroken most A B C [] line [] [] r own run fine step other run' fine' = absurd run'
unbroken most A B C [] line [] (q ∷ []) r own run fine step other run' fine' =
    let here = subst (λ (X : List Submission). Step most X line r B) run step in
    let ok = All-head IsOk q [] fine' in
    let one = one_step most A line q r run'.0 B own run'.1 here (remembered q ok) other in
    (subst IsOk one.0 ok, run'.2 ∙ one.1)
unbroken most A B C [] line [] (q ∷ p ∷ R) r own run fine step other run' fine' = absurd run'.2
unbroken most A B C [] line (q ∷ Q) R r own run fine step other run' fine' = absurd run
unbroken most A B C (l ∷ L) line [] R r own run fine step other run' fine' = absurd run
unbroken most A B C (l ∷ L) line (q ∷ Q) [] r own run fine step other run' fine' = absurd run'
unbroken most A B C (l ∷ L) line (q ∷ Q) (p ∷ R) r own run fine step other run' fine' =
    let M : List Submission = run.0 in
    let same = one_step most A l p q run'.0 M own run'.1 run.1 (remembered p (All-head IsOk p R fine')) (remembered q (All-head IsOk q Q fine)) in
    unbroken most M B C L line Q R r (HaveOwnIds-Takes A l q M (step_to most A l q M run.1).1 own) run.2 (All-tail IsOk q Q fine) step other
    (subst (λ (X : List Submission). Run most X (L ++ line ∷ []) R C) same.1 run'.2) (All-tail IsOk p R fine')

-- one line more has to be a submission, where it is no header
onto : (b : Bool) (x : List ℕ) (ls ms : List (List ℕ)) → (if b then ls ++ ms else x ∷ (ls ++ ms)) ≡ (if b then ls else x ∷ ls) ++ ms
onto true x ls ms = refl
onto false x ls ms = refl

pub submission_push : (before : List (List ℕ)) (line : List ℕ) → (before ≡ [] → is_header line ≡ false) → submission_lines (before ++ line ∷ []) ≡ submission_lines before ++ line ∷ []
submission_push [] line none = ap (λ b. if b then [] else line ∷ []) (none refl)
submission_push (x ∷ before) line none = onto (is_header x) x before (line ∷ [])

-- ---- one line

-- a line leaves the list as it is, or one longer
pub same_or_longer : (cap : ℕ) (A : List Submission) (line : List ℕ) (r : Answer) (B : List Submission) → Step cap A line r B → (B ≡ A) ⊎ (length B ≡ length A + 1)
same_or_longer most A line r B h = elim (step_to most A line r B h).1 [
  | inl adds ↦ inr (ap length adds.4 ∙ length_push A adds.0)
  | inr keeps ↦ inl keeps.1
]

-- a long line is no header
pub long_line : (line : List ℕ) → line_limit < length line → is_header line ≡ false
long_line line long = false_from_ne_true _ (λ is. short ((bytes_eq-Decides (strip_carriage_return line) header).0 is))
  where
    short : strip_carriage_return line ≡ header → ⊥
    short same =
        elim (cases_return line) [
          | inl whole ↦ omega (arith, long, ap length (whole ∙ same))
          | inr more ↦ omega (arith, long, ap length (more ∙ ap (λ xs. xs ++ 13 ∷ []) same))
        ]

-- a line is judged by what is shown of it
pub header_shown : (line : Option (Bor (List ℕ))) (none shown : Bor (List ℕ)) (text whole : List ℕ) (is : Bool) → IsLine line whole → none.now ≡ [] → shown ≡ unwrap_or line none
    → text ≡ strip_carriage_return shown.now → is ≡ bytes_eq text header → is_header whole ≡ is
header_shown line none shown text whole is cut empty shows strips says = by_line line cut shows ∙ ap (λ xs. bytes_eq xs header) (sym strips) ∙ sym says
  where
    by_line : (line : Option (Bor (List ℕ))) → IsLine line whole → shown ≡ unwrap_or line none → is_header whole ≡ is_header shown.now
    by_line None long shows = long_line whole long ∙ sym (ap is_header (ap (λ (b : Bor (List ℕ)). b.now) shows ∙ empty))
    by_line (Some bytes) same shows = sym (ap is_header (ap (λ (b : Bor (List ℕ)). b.now) shows ∙ same.0))

pub not_true : (b : Bool) → not b ≡ true → b ≡ false
not_true true h = let bad : false ≡ true = h in absurd (cc)
not_true false h = refl

-- ---- what comes of an answer

module _ (is_saved : Bool) (n cap : ℕ) (A : List Submission) (line : List ℕ) (B : List Submission) where
  pub judged_taken : (accepted : Accepted) → Step cap A line (Ok accepted.number) B → accepted.is_new ≡ nat_lt (length A) (length B) → (accepted.is_new ≡ true) ⊎ (is_saved ≡ false)
      → Judged is_saved n A B (Ok accepted.number) (Ok tt)
  judged_taken accepted step new (inr old) = (refl, λ saved. let bad : is_saved ≡ true = saved in cc)
  judged_taken accepted step new (inl is) = (
    refl,
    λ saved. elim (same_or_longer cap A line (Ok accepted.number) B step) [
      | inl same ↦ absurd (omega (arith, ltb-true (length A) (length B) (sym new ∙ is), ap length same))
      | inr longer ↦ longer
    ],
  )

  pub judged_repeat : (accepted : Accepted) → Step cap A line (Ok accepted.number) B → accepted.is_new ≡ nat_lt (length A) (length B) → accepted.is_new ≡ false → is_saved ≡ true
      → Judged is_saved n A B (Ok accepted.number) (Err (error.Line n))
  judged_repeat accepted step new is saved = (
    refl,
    λ q. (cc),
    elim (same_or_longer cap A line (Ok accepted.number) B step) [
      | inl same ↦ same
      | inr longer ↦ absurd (omega (arith, ltb-false (length A) (length B) (sym new ∙ is), longer))
    ],
    inr saved,
  )

  pub judged_refused : (e : Refusal) → Step cap A line (Err e) B → e ≢ refusal.Memory → Judged is_saved n A B (Err e) (Err (error.Line n))
  judged_refused e step other = (refl, λ q. other (cc), refusal_step cap A line e B step, inl refl)

-- whether a header comes first, where one line more is none
header_before : (before : List (List ℕ)) (line : List ℕ) → (before ≡ [] → is_header line ≡ false) → has_header before ≡ has_header (before ++ line ∷ [])
header_before [] line none = sym (none refl)
header_before (x ∷ before) line none = refl

-- the ledger that is lent
pub SameLedger-refl : (s : MutBor LedgerState) → SameLedger s s
SameLedger-refl s = record { lent = refl; rest = refl }

pub SameLedger-then : (s m t : MutBor LedgerState) → SameLedger s m → SameLedger m t → SameLedger s t
SameLedger-then s m t h k = record { lent = k.lent ∙ h.lent; rest = k.rest ∙ ap (λ (l : LedgerState). record l { accepted = t.now.accepted }) h.rest }

-- what is so at a line whatever the lines are
done_at : {P : Type 0} {fills : ℕ} {old new : SourceState} → AtLine fills old new (λ _. P) → P
done_at (inl h) = h.done
done_at (inr h) = h.done

module _ {T : Type 0} where
  -- what submitting a line leaves, where it isn't the first or no header
  pub submitted_so : (s : Loader T) (ledger : LedgerState) (n : ℕ) (line : Option (Bor (List ℕ))) (whole : List ℕ) (full : Result Accepted Refusal) (result : Result (Unit {0}) LoadError)
      → n ≡ next_count s.lines → (s.lines ≡ 0 → is_header whole ≡ false) → IsLine line whole
      → MatchOption line ((full ≡ Err refusal.Long) × (ledger ≡ s.ledger.now)) (λ bytes. Step s.ledger.now.cap s.ledger.now.accepted bytes.now (answer_of full) ledger.accepted)
      → KeepsRest s.ledger.now ledger
      → (Step s.ledger.now.cap s.ledger.now.accepted whole (answer_of full) ledger.accepted → Judged s.is_saved n s.ledger.now.accepted ledger.accepted (answer_of full) result)
      → LoadsLine s whole result (record { ledger = record s.ledger { now = ledger }; lines = n; is_saved = s.is_saved })
  submitted_so s ledger n line whole full result counted other is step rest judges =
      let step = step_by s.ledger.now ledger line whole full is step in
      submission other (record { answer = answer_of full; step = step; judged = judges step; lines = counted; saved = refl; keeps = record { lent = refl; rest = rest } })

  -- lines that were taken as submissions
  pub record Taken (s t : Loader T) (ls : List (List ℕ)) : Type 0 where
    pub answers : List Answer
    pub run : Run s.ledger.now.cap s.ledger.now.accepted ls answers t.ledger.now.accepted
    pub taken : All IsOk answers
    pub new : IsTrue s.is_saved → length t.ledger.now.accepted ≡ length s.ledger.now.accepted + length ls
    pub saved : t.is_saved ≡ s.is_saved
    pub lines : s.lines + length ls < 2 ^ 64 → t.lines ≡ s.lines + length ls
    pub keeps : SameLedger s.ledger t.ledger

  Taken-none : (s : Loader T) → Taken s s []
  Taken-none s = record { answers = []; run = refl; taken = All-nil IsOk; new = λ h. omega arith; saved = refl; lines = λ h. omega arith; keeps = SameLedger-refl s.ledger }

  Taken-more : (s m t : Loader T) (line : List ℕ) (ls : List (List ℕ)) → LoadsGame s line (Ok tt) m → Taken m t ls → Taken s t (line ∷ ls)
  Taken-more s m t line ls one rest = record {
    answers = one.answer ∷ rest.answers;
    run = (m.ledger.now.accepted, one.step, subst (λ most. Run most m.ledger.now.accepted ls rest.answers t.ledger.now.accepted) (ap (λ (l : LedgerState). l.cap) one.keeps.rest) rest.run);
    taken = All-cons IsOk one.answer rest.answers one.judged.0 rest.taken;
    new = λ h. let first = one.judged.1 h in let others = rest.new (subst IsTrue (sym one.saved) h) in omega (arith, first, others);
    saved = rest.saved ∙ one.saved;
    lines = λ few. let counted = one.lines in let others = rest.lines (omega (arith, few, counted)) in omega (arith, few, counted, others);
    keeps = SameLedger-then s.ledger m.ledger t.ledger one.keeps rest.keeps;
  }

  -- no line after the first is a header
  submitted : (s t : Loader T) (line : List ℕ) (answer : Result (Unit {0}) LoadError) → 1 ≤ s.lines → LoadsLine s line answer t → LoadsGame s line answer t
  submitted s t line answer some (headed zero is _ same) = absurd (omega (arith, zero, some))
  submitted s t line answer some (submission other one) = one

  later : (s t : Loader T) (ls : List (List ℕ)) → 1 ≤ s.lines → TakesAll LoadsLine s ls t → Taken s t ls
  later s t [] some h = subst (λ (x : Loader T). Taken s x []) (sym h) (Taken-none s)
  later s t (line ∷ ls) some h =
      let one = submitted s h.0 line (Ok tt) some h.1 in Taken-more s h.0 t line ls one (later h.0 t ls (omega (arith, one.lines, some)) h.2)

  -- lines that were taken from the first on
  pub record Whole (s t : Loader T) (ls : List (List ℕ)) : Type 0 where
    pub loads : Loads s.ledger.now.cap ls t.ledger.now.accepted
    pub saved : t.is_saved ≡ has_header ls
    pub lines : length ls < 2 ^ 64 → t.lines ≡ length ls
    pub keeps : SameLedger s.ledger t.ledger

  abbrev pub IsFresh : Loader T → Type 0
  IsFresh s = (s.lines ≡ 0) × (s.is_saved ≡ false) × (s.ledger.now.accepted ≡ [])

  module _ (s : Loader T) (fresh : IsFresh s) where
    Whole-none : Whole s s []
    Whole-none = record {
      loads = record { answers = []; run = fresh.2; taken = All-nil IsOk; new = λ h. ap length fresh.2 };
      saved = fresh.1;
      lines = λ few. fresh.0;
      keeps = SameLedger-refl s.ledger;
    }

    -- where the first line is the header
    Whole-saved : (t : Loader T) (line : List ℕ) (ls : List (List ℕ)) → is_header line ≡ true → Taken (record s { lines = 1; is_saved = true }) t ls → Whole s t (line ∷ ls)
    Whole-saved t line ls is h =
        let start : s.ledger.now.accepted ≡ [] = fresh.2 in
        let same : submission_lines (line ∷ ls) ≡ ls = ap (λ b. if b then ls else line ∷ ls) is in record {
          loads = record {
            answers = h.answers;
            run = subst (λ L. Run s.ledger.now.cap [] L h.answers t.ledger.now.accepted) (sym same)
                (subst (λ A. Run s.ledger.now.cap A ls h.answers t.ledger.now.accepted) start h.run);
            taken = h.taken;
            new = λ _. omega (arith, h.new refl, ap length start, ap length same);
          };
          saved = h.saved ∙ sym is;
          lines = λ few. omega (arith, h.lines (omega (arith, few)));
          keeps = h.keeps;
        }

    -- where it isn't
    Whole-old : (t : Loader T) (line : List ℕ) (ls : List (List ℕ)) → is_header line ≡ false → Taken s t (line ∷ ls) → Whole s t (line ∷ ls)
    Whole-old t line ls is h =
        let start : s.ledger.now.accepted ≡ [] = fresh.2 in
        let same : submission_lines (line ∷ ls) ≡ line ∷ ls = ap (λ b. if b then ls else line ∷ ls) is in record {
          loads = record {
            answers = h.answers;
            run = subst (λ L. Run s.ledger.now.cap [] L h.answers t.ledger.now.accepted) (sym same)
                (subst (λ A. Run s.ledger.now.cap A (line ∷ ls) h.answers t.ledger.now.accepted) start h.run);
            taken = h.taken;
            new = λ (k : is_header line ≡ true). let no : false ≡ true = sym is ∙ k in cc;
          };
          saved = h.saved ∙ fresh.1 ∙ sym is;
          lines = λ few. let zero = fresh.0 in omega (arith, zero, h.lines (omega (arith, few, zero)));
          keeps = h.keeps;
        }

    pub whole : (t : Loader T) (ls : List (List ℕ)) → TakesAll LoadsLine s ls t → Whole s t ls
    whole t [] h = subst (λ (x : Loader T). Whole s x []) (sym h) Whole-none
    whole t (line ∷ ls) h = by h.1
      where
        by : LoadsLine s line (Ok tt) h.0 → Whole s t (line ∷ ls)
        by (headed zero is answer same) = Whole-saved t line ls is (subst (λ (m : Loader T). Taken m t ls) same (later h.0 t ls (omega (arith, ap (λ (m : Loader T). m.lines) same)) h.2))
        by (submission other one) = Whole-old t line ls (other fresh.0) (Taken-more s h.0 t line ls one (later h.0 t ls (omega (arith, one.lines)) h.2))

  -- lines that were taken, and one more that stopped the loader
  abbrev Stopped : Loader T → Loader T → LoadError → List (List ℕ) → Type 0
  Stopped s t error.Memory ls = Wants Loads (from_to s.ledger.now t.ledger.now) ls
  Stopped s t (error.Line n) ls = (n ≡ length ls) × Breaks (from_to s.ledger.now t.ledger.now) ls
  Stopped s t error.Read ls = ⊥
  Stopped s t error.Endless ls = ⊥

  module _ (s t : Loader T) (ls : List (List ℕ)) (fresh : IsFresh s) (few : length ls < 2 ^ 64) where
    module _ (before : List (List ℕ)) (line : List ℕ) (m : Loader T) (are : ls ≡ before ++ line ∷ []) (w : Whole s m before)
        (other : m.lines ≡ 0 → is_header line ≡ false) where
      short : length before < 2 ^ 64
      short = omega (arith, few, ap length are ∙ length_push before line)

      loads_before : t.ledger.now.accepted ≡ m.ledger.now.accepted → Loads s.ledger.now.cap before t.ledger.now.accepted
      loads_before same = subst (λ B. Loads s.ledger.now.cap before B) (sym same) w.loads

      no_header : before ≡ [] → is_header line ≡ false
      no_header none = other (w.lines short ∙ ap length none)

      -- the same step, from the list as it is afterwards
      step_after : (answer : Answer) → Step m.ledger.now.cap m.ledger.now.accepted line answer t.ledger.now.accepted → t.ledger.now.accepted ≡ m.ledger.now.accepted
          → Step s.ledger.now.cap t.ledger.now.accepted line answer t.ledger.now.accepted
      step_after answer h same =
          subst (λ B. Step s.ledger.now.cap B line answer t.ledger.now.accepted) (sym same)
          (subst (λ most. Step most m.ledger.now.accepted line answer t.ledger.now.accepted) (ap (λ (l : LedgerState). l.cap) w.keeps.rest) h)

      -- with the last line they make nothing
      breaks : (answer : Answer) → Step s.ledger.now.cap t.ledger.now.accepted line answer t.ledger.now.accepted → answer ≢ Err refusal.Memory
          → Loads s.ledger.now.cap before t.ledger.now.accepted → IsErr answer ⊎ IsTrue m.is_saved → (C : List Submission) → Loads s.ledger.now.cap ls C → ⊥
      breaks answer step remembers loads broken C all =
          let whole : Loads s.ledger.now.cap (before ++ line ∷ []) C = subst (λ (l : List (List ℕ)). Loads s.ledger.now.cap l C) are all in
          let push = submission_push before line no_header in
          let so = unbroken s.ledger.now.cap [] t.ledger.now.accepted C (submission_lines before) line loads.answers whole.answers answer HaveOwnIds-nil loads.run loads.taken step remembers
          (subst (λ l. Run s.ledger.now.cap [] l whole.answers C) push whole.run) whole.taken in
          elim broken [
            | inl refused ↦ not_both answer so.0 refused
            | inr saved ↦
                let has : IsTrue (has_header before) = subst IsTrue w.saved saved in
                let fewer = loads.new has in
                let more = whole.new (subst IsTrue (header_before before line no_header) has) in
                omega (arith, fewer, more, ap length so.1, ap length push, length_push (submission_lines before) line)
          ]

      stopped_so : (e : LoadError) → LoadsGame m line (Err e) t → Stopped s t e ls
      stopped_so error.Read sub = absurd sub.judged
      stopped_so error.Endless sub = absurd sub.judged
      stopped_so error.Memory sub =
          let answer : sub.answer ≡ Err refusal.Memory = sub.judged in
          let step = subst (λ r. Step m.ledger.now.cap m.ledger.now.accepted line r t.ledger.now.accepted) answer sub.step in
          let same = refusal_step m.ledger.now.cap m.ledger.now.accepted line refusal.Memory t.ledger.now.accepted step in
          record { before = before; line = line; are = are; done = (loads_before same, step_after (Err refusal.Memory) step same) }
      stopped_so (error.Line n) sub =
          let judged = sub.judged in
          let same : t.ledger.now.accepted ≡ m.ledger.now.accepted = judged.2 in
          let loads = loads_before same in (
            omega (arith, judged.0, sub.lines, w.lines short, short, ap length are ∙ length_push before line),
            (record { before = before; line = line; are = are; done = loads }, breaks sub.answer (step_after sub.answer sub.step same) judged.1 loads judged.3),
          )

    stopped_by : (e : LoadError) (before : List (List ℕ)) (line : List ℕ) (m : Loader T) → ls ≡ before ++ line ∷ [] → Whole s m before → LoadsLine m line (Err e) t → Stopped s t e ls × SameLedger s.ledger t.ledger
    stopped_by e before line m are w (headed zero is answer same) = let no : Err e ≡ Ok tt = answer in cc
    stopped_by e before line m are w (submission other sub) =
        (stopped_so before line m are w other e sub, SameLedger-then s.ledger m.ledger t.ledger w.keeps sub.keeps)

    pub stopped : (e : LoadError) → StopsAtLast LoadsLine s ls e t → Stopped s t e ls × SameLedger s.ledger t.ledger
    stopped e h = stopped_by e h.0 h.1 h.2 h.3 (whole s fresh h.2 h.0 h.4) h.5

  -- ---- the whole of a stream

  module _ (fills : ℕ) (old new : SourceState) (s t : Loader T) (fresh : IsFresh s) (small : fills < 2 ^ 32) where
    abbrev gives : ReadFault → LoadError → Type 0
    gives fault e = e ≡ load_error fault

    abbrev Ends : LoadError → Type 0
    Ends = LoadsUntil fills (from_to old new) (from_to s.ledger.now t.ledger.now)

    last_of : (e : LoadError) (ls : List (List ℕ)) → length ls ≤ fills * chunk_len
        → StopsAtLast LoadsLine s ls e t → Stopped s t e ls × SameLedger s.ledger t.ledger
    last_of e ls few = stopped s t ls fresh (omega (arith, small, few)) e

    -- by a fault of reading
    unread : (fault : ReadFault) → ReadUntil LoadsLine fills old new s t fault
        → Ends (load_error fault) × SameLedger s.ledger t.ledger
    unread fault.Read h = let w = whole s fresh t (ended_lines h.came) h.done in (record { came = h.came; reads = h.reads; done = w.loads }, w.keeps)
    unread fault.Endless h = let w = whole s fresh t (ended_lines h.came) h.done in (record { came = h.came; reads = h.reads; done = w.loads }, w.keeps)
    unread fault.Memory h = (
      inl (h.0, ap (λ (x : Loader T). x.ledger.now) h.1),
      subst (λ (x : Loader T). SameLedger s.ledger x.ledger) (sym h.1) (SameLedger-refl s.ledger),
    )

    -- at a line
    ends_at : (e : LoadError) → AtLine fills old new (Stopped s t e) → Ends e
    ends_at (error.Line n) h = h
    ends_at error.Memory h = inr h
    ends_at error.Read h = absurd (done_at h)
    ends_at error.Endless h = absurd (done_at h)

    pub until : (e : LoadError) → TakesUntil gives (either LoadsLine) fills old new s t e → Ends e × SameLedger s.ledger t.ledger
    until e h = by (takes-until LoadsLine gives fills old new s t e h)
      where
        by : ((fault : ReadFault) × gives fault e × ReadUntil LoadsLine fills old new s t fault) ⊎ AtLine fills old new (λ ls. StopsAtLast LoadsLine s ls e t)
            → Ends e × SameLedger s.ledger t.ledger
        by (inl k) = let ends = unread k.0 k.2 in (subst Ends (sym k.1) ends.0, ends.1)
        by (inr k) = (
          ends_at e (AtLine-weaker fills old new _ _ (λ ls few stops. (last_of e ls few stops).0) k),
          done_at (AtLine-weaker fills old new _ (λ _. SameLedger s.ledger t.ledger)
              (λ ls few stops. (last_of e ls few stops).1) k),
        )

    pub all_loaded : TakesStream (either LoadsLine) fills old new s (Ok tt) t → AtEnd fills old new (Makes Loads (from_to s.ledger.now t.ledger.now)) × SameLedger s.ledger t.ledger
    all_loaded h =
        let all = takes-lines LoadsLine fills old new s t h in let w = whole s fresh t (lines all.came) all.done in
        (record { came = all.came; reads = all.reads; done = w.loads }, w.keeps)
