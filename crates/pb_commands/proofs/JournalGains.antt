-- What a journal holds that gained the games of a run.
use Rattle.std.proofs.Common.{zero, suc, ◌≡◌, ◌∙◌, ℕ, ◌+◌, ◌≤◌, ◌⊎◌, List, [], ◌∷◌, ◌++◌, All, Some, None, Ok, Bool, ap, append-nil, append_assoc, arith, drop, if◌then◌else◌, inl, inr, length, length-append, refl, slice_get, subst, sym, take}
use Rattle.std.proofs.Math.Seq.{drop-append_seam}
use Rattle.std.proofs.lemmas.List.{get_or_append_left}
use Rattle.std.proofs.lemmas.List.Elements.{All-drop, All-same}
use Rattle.std.proofs.lemmas.Option.{get_or_from_slice_get, slice_get-get_or, slice_get_within}
use Rattle.std.specs.Io.KnownBytes.{Appends}
use Rattle.std.proofs.KnownBytes.{Appends-nil}
use Rattle.pb_board.specs.LineEnd.{with_end}
use Rattle.pb_io.specs.Lines.{ended_lines}
use Rattle.pb_games.specs.Submissions.{Submits, IsSubmission, Submission, submission_text}
use Rattle.pb_accepted.specs.Accepting as steps
use Rattle.pb_accepted.specs.Accepting.{Answer, Run, Step}
use Rattle.pb_accepted.specs.Replying.{Arrives, IsNumber}
use Rattle.pb_accepted.specs.Replying.{HaveOwnIds}
use Rattle.pb_accepted.specs.Accepting.{replies, reply_line}
use Rattle.pb_accepted.proofs.Numbers.{IsNumber-Accepted, slice_get-push}
use Rattle.pb_accepted.proofs.Steps.{distinct_ids, run_to, runs_join}
use Rattle.pb_io.specs.Source.{ReadsAll, chunk_len}
use Rattle.pb_io.specs.Sink.{AllLasts, SinkState}
use Rattle.pb_io.specs.Source.{SourceState}
use Rattle.pb_accepted.specs.Ledger.{LedgerState}
use Rattle.pb_ledger.specs.Change.{Change}
use Rattle.pb_ledger.specs.Journal.{GameLines, Journals, mending, seal}
use Rattle.pb_ledger.specs.Journal.{ReplaysAll}
use Rattle.pb_ledger.specs.Change.{Puts}
use Rattle.pb_accepted.proofs.Held.{are_submissions, has_room}
use Rattle.pb_ledger.proofs.Journals.{journal_grows, journal_may_tear}

-- ---- runs

-- a line that was answered with a number submits the game that has it then
numbered : (cap : ℕ) (A : List Submission) (line : List ℕ) (n : ℕ) (B : List Submission) → Step cap A line (Ok n) B → (s : Submission) × Submits line s × IsNumber B n s
numbered most A line n B (steps.new s law fresh room e f) =
    let is : n ≡ length A + 1 = cc in (s, law, (length A, is, subst (λ (X : List Submission). slice_get X (length A) ≡ Some s) (sym f) (slice_get-push A s)))
numbered most A line n B (steps.full s law fresh many e f) = absurd (cc e)
numbered most A line n B (steps.memory s law fresh room e f) = absurd (cc e)
numbered most A line n B (steps.repeat s m law at e f) =
    let is : n ≡ m = cc in (s, law, subst (λ (X : List Submission). IsNumber X n s) (sym f) (subst (λ k. IsNumber A k s) (sym is) at))
numbered most A line n B (steps.conflict s g m law at differs e f) = absurd (cc e)
numbered most A line n B (steps.refused x why e f) = absurd (cc e)

-- a number that a line was answered is that of its game in the end
pub has_numbers : (cap : ℕ) (A : List Submission) (L : List (List ℕ)) (R : List Answer) (B : List Submission) → Run cap A L R B
    → (i n : ℕ) → slice_get R i ≡ Some (Ok n) → (s : Submission) × Arrives L i s × IsNumber B n s
has_numbers most A [] [] B run i n told = let none : None ≡ Some (Ok n) = told in absurd (cc)
has_numbers most A [] (r ∷ R) B run i n told = absurd run
has_numbers most A (line ∷ L) [] B run i n told = absurd run
has_numbers most A (line ∷ L) (r ∷ R) B run zero n told =
    let answered : Some r ≡ Some (Ok n) = told in
    let is : r ≡ Ok n = cc in
    let one = numbered most A line n run.0 (subst (λ x. Step most A line x run.0) is run.1) in
    (one.0, (line, refl, one.1), IsNumber-Accepted run.0 L R B n one.0 (run_to most run.0 L R B run.2).1 one.2)
has_numbers most A (line ∷ L) (r ∷ R) B run (suc i) n told = has_numbers most run.0 L R B run.2 i n told

-- numbers of a front stay
pub IsNumber-front : (A B : List Submission) (n : ℕ) (s : Submission) → IsNumber A n s → IsNumber (A ++ B) n s
IsNumber-front A B n s at =
    let within = slice_get_within A at.0 s at.2 in (
      at.0,
      at.1,
      slice_get-get_or (A ++ B) at.0 s (omega (arith, within, length-append A B))
          ∙ ap (λ (x : Submission). Some x) (get_or_append_left A B s at.0 within ∙ get_or_from_slice_get A at.0 s s at.2),
    )

-- the reply to the last line of a run comes after the others
pub replies-push : (cap : ℕ) (A B : List Submission) (before : List (List ℕ)) (line : List ℕ) (answers : List Answer) (answer : Answer)
    → Run cap A (before ++ line ∷ []) (answers ++ answer ∷ []) B
    → replies (before ++ line ∷ []) (answers ++ answer ∷ []) ≡ replies before answers ++ reply_line line answer
replies-push most A B [] line [] answer run = append-nil (reply_line line answer)
replies-push most A B [] line (q ∷ []) answer run = absurd run.2
replies-push most A B [] line (q ∷ r ∷ answers) answer run = absurd run.2
replies-push most A B (first ∷ []) line [] answer run = absurd run.2
replies-push most A B (first ∷ next ∷ before) line [] answer run = absurd run.2
replies-push most A B (first ∷ before) line (q ∷ answers) answer run =
    ap (λ bs. reply_line first q ++ bs) (replies-push most run.0 B before line answers answer run.2) ∙ sym (append_assoc (reply_line first q) (replies before answers) (reply_line line answer))

-- ---- the games of a run that went on from those of a journal

module _ (cap : ℕ) (kept : List ℕ) (A B : List Submission) (L : List (List ℕ)) (R : List Answer) (holds : Journals cap kept A) (run : Run cap A L R B) where
  -- the lines of the journal and those of the run are those of one run
  pub one_run : Run cap [] (ended_lines kept ++ L) (holds.answers ++ R) B
  one_run = runs_join cap [] A B (ended_lines kept) L holds.answers R holds.run run

  games : All IsSubmission B
  games = are_submissions cap (ended_lines kept ++ L) (holds.answers ++ R) B one_run

  own : HaveOwnIds B
  own = distinct_ids cap (ended_lines kept ++ L) (holds.answers ++ R) B one_run

  room : length B ≤ cap
  room = has_room cap (ended_lines kept ++ L) (holds.answers ++ R) B one_run

  -- those that come after the journal's
  games_after : (new : List Submission) → B ≡ A ++ new → All IsSubmission new
  games_after new are =
      All-same IsSubmission new (drop (length A) (A ++ new)) (sym (drop-append_seam A new)) (All-drop IsSubmission (length A) (A ++ new) (subst (All IsSubmission) are games))

  pub gains_all : (new : List Submission) (text : List ℕ) → B ≡ A ++ new → GameLines new text → Journals cap (kept ++ mending kept ++ text) (A ++ new)
  gains_all new text are put =
      journal_grows cap kept text A new holds (games_after new are) (subst HaveOwnIds are own) (subst (λ (X : List Submission). length X ≤ cap) are room) put

  pub gains_torn : (new : List Submission) (game : Submission) (text : List ℕ) (n : ℕ) → B ≡ A ++ new ++ game ∷ [] → GameLines new text
      → Journals cap (kept ++ mending kept ++ text ++ take n (with_end (submission_text game))) (A ++ new)
      ⊎ Journals cap (kept ++ mending kept ++ text ++ take n (with_end (submission_text game))) (A ++ new ++ game ∷ [])
  gains_torn new game text n are put =
      journal_may_tear cap kept text A new game n holds (games_after (new ++ game ∷ []) (are ∙ append_assoc A new (game ∷ []))) (subst HaveOwnIds are own)
      (subst (λ (X : List Submission). length X ≤ cap) are room) put

-- ---- a journal that was replayed

-- all its bytes came, their games are held, and its end was mended
pub record Replayed (fills : ℕ) (kept : Change SourceState) (journal : Change SinkState) (ledger : Change LedgerState) : Type 0 where
  pub came : List ℕ
  pub reads : ReadsAll chunk_len fills kept.old kept.new came
  pub holds : Journals ledger.old.cap came ledger.new.accepted
  pub put : Puts journal (mending came)
  pub all_lasts : AllLasts journal.old → AllLasts journal.new

pub replayed : (fills : ℕ) (kept : Change SourceState) (journal : Change SinkState) (ledger : Change LedgerState) → ReplaysAll fills kept journal ledger → Replayed fills kept journal ledger
replayed fills kept journal ledger (inl (h, same)) = record {
  came = h.came;
  reads = h.reads;
  holds = h.done.0;
  put =
      let Mends : Bool → Type 0 = λ torn. Puts journal (if torn then seal else []) in
      subst Mends h.done.1 (subst (λ (s : SinkState). Appends journal.old.bytes s.bytes []) (sym same) (Appends-nil journal.old.bytes));
  all_lasts = λ all. subst AllLasts (sym same) all;
}
replayed fills kept journal ledger (inr (h, writes)) = record {
  came = h.came;
  reads = h.reads;
  holds = h.done.0;
  put = let Mends : Bool → Type 0 = λ torn. Puts journal (if torn then seal else []) in subst Mends h.done.1 writes.all;
  all_lasts = λ all. writes.all_lasts;
}
