-- A journal's games: one list, which grows by the lines of new games, whether its last line is torn
-- or not.
use Rattle.std.proofs.Common.{◌≡◌, ◌≢◌, ◌∙◌, ℕ, ◌<◌, ◌≤◌, ◌⊎◌, true, false, cond, eqb, List, [], ◌∷◌, ◌++◌, Ok, Err, All, IsOk, length, take, drop, refl, sym, ap, subst, inl, inr, arith, append-nil, append_assoc}
use Rattle.std.specs.List.{count_by, flat_map, slice_split}
use Rattle.std.specs.Prelude.{Bool, nat_lt, if◌then◌else◌}
use Rattle.std.proofs.Math.Seq.{drop-append_seam, take-append_seam}
use Rattle.std.proofs.lemmas.Bool.{cases_Bool, cases_lt, ltb-false}
use Rattle.std.proofs.lemmas.Grind.{flat_map-append}
use Rattle.std.proofs.lemmas.List.{length-append, map-append, same_from_push, take-append-le, take_all}
use Rattle.std.proofs.lemmas.List.Elements.{All-append, All-cons, All-drop, All-from_recursion, All-head, All-nil, All-same, All-tail, All-take, All-weaker}
use Rattle.std.proofs.lemmas.List.Sums.{sum_by-append}
use Rattle.std.proofs.lemmas.List.Splits.{length-slice_split}
use Rattle.pb_board.specs.LineEnd.{with_end}
use Rattle.pb_io.specs.Lines.{ended_lines, is_torn, last_piece, line_limit}
use Rattle.pb_io.proofs.LineLemmas.{IsQuiet, is_line_feed, ended-first, ended_lines-ended, ended_lines-quiet, last_piece-ended}
use Rattle.pb_games.specs.declared.refusal.Refusal.{Refusal}
use Rattle.pb_games.specs.declared.refusal.Refusal.TheVariants.{Long, Memory, Shape}
use Rattle.std.specs.Str.Lines.{strip_carriage_return}
use Rattle.pb_board.proofs.LineEnds.{strip_same}
use Rattle.pb_games.specs.Cuts.{fields_of}
use Rattle.pb_games.specs.Refusing.{Refuses}
use Rattle.pb_games.specs.Submissions.{IsSubmission, Submission, submission_text}
use Rattle.pb_games.proofs.Dues.{first_due, none_at_first}
use Rattle.pb_games.proofs.Headers.{shape_refused}
use Rattle.pb_accepted.specs.Accepting as steps
use Rattle.pb_accepted.specs.Accepting.{Answer, Run}
use Rattle.pb_accepted.specs.Replying.{HaveOwnIds}
use Rattle.pb_accepted.proofs.Replies.{HaveOwnIds-Takes}
use Rattle.pb_accepted.proofs.Runs.{HaveOwnIds-nil}
use Rattle.pb_accepted.proofs.Steps.{one_step, runs_join, step_to}
use Rattle.pb_ledger.specs.Journal.{GameLines, Journals, Replays, mending, seal}
use Rattle.pb_ledger.proofs.LinesPut.{lines_put}
use Rattle.pb_ledger.proofs.SavedLoading.{Given, HaveOwnIds-front, given, quiet_text, quiet_texts, texts_of}

-- ---- a journal is of one list

-- no want of memory was answered
abbrev Kept : Answer → Type 0
Kept r = r ≢ Err Memory

-- lines only add submissions
only_adds : (cap : ℕ) (A : List Submission) (L : List (List ℕ)) (R : List Answer) (B : List Submission) → Run cap A L R B → (more : List Submission) × (B ≡ A ++ more)
only_adds most A [] [] B h = ([], h ∙ sym (append-nil A))
only_adds most A [] (r ∷ R) B h = absurd h
only_adds most A (line ∷ L) [] B h = absurd h
only_adds most A (line ∷ L) (r ∷ R) B h =
    let rest = only_adds most h.0 L R B h.2 in
    elim (step_to most A line r h.0 h.1).1 [
      | inl adds ↦ (adds.0 ∷ rest.0, rest.1 ∙ ap (λ (X : List Submission). X ++ rest.0) adds.4 ∙ append_assoc A (adds.0 ∷ []) rest.0)
      | inr keeps ↦ (rest.0, rest.1 ∙ ap (λ (X : List Submission). X ++ rest.0) keeps.1)
    ]

-- a run that goes on adds to what its first lines left
goes_on : (cap : ℕ) (A B C : List Submission) (ls ms : List (List ℕ)) (Q R : List Answer) → HaveOwnIds A → Run cap A ls Q B → Run cap A (ls ++ ms) R C
    → All Kept Q → All Kept R → (more : List Submission) × (C ≡ B ++ more)
goes_on most A B C [] ms [] R own run run' kept kept' =
    let adds = only_adds most A ms R C run' in (adds.0, adds.1 ∙ ap (λ (X : List Submission). X ++ adds.0) (sym run))
goes_on most A B C [] ms (q ∷ Q) R own run run' kept kept' = absurd run
goes_on most A B C (line ∷ ls) ms [] R own run run' kept kept' = absurd run
goes_on most A B C (line ∷ ls) ms (q ∷ Q) [] own run run' kept kept' = absurd run'
goes_on most A B C (line ∷ ls) ms (q ∷ Q) (r ∷ R) own run run' kept kept' =
    let M : List Submission = run.0 in
    let same = one_step most A line r q run'.0 M own run'.1 run.1 (All-head Kept r R kept') (All-head Kept q Q kept) in
    goes_on most M B C ls ms Q R (HaveOwnIds-Takes A line q M (step_to most A line q M run.1).1 own) run.2 (subst (λ (X : List Submission). Run most X (ls ++ ms) R C) same.1 run'.2)
    (All-tail Kept q Q kept) (All-tail Kept r R kept')

pub journal_goes_on : (cap : ℕ) (front behind : List ℕ) (A B : List Submission) → Journals cap front A → Journals cap (front ++ behind) B → (later : List Submission) × (B ≡ A ++ later)
journal_goes_on cap front behind A B h k =
    let lines = ended-first front behind in
    let k' : Replays cap (ended_lines front ++ lines.0) B = subst (λ (ls : List (List ℕ)). Replays cap ls B) lines.1 k in
    goes_on cap [] A B (ended_lines front) lines.0 h.answers k'.answers HaveOwnIds-nil h.run k'.run h.remembered k'.remembered

empty : (X : List Submission) → length X ≤ 0 → X ≡ []
empty [] none = refl
empty (x ∷ X) none = absurd (omega (arith, none))

pub journal_is_one : (cap : ℕ) (bytes : List ℕ) (A B : List Submission) → Journals cap bytes A → Journals cap bytes B → A ≡ B
journal_is_one cap bytes A B h k =
    let at_end : (X : List Submission) → Journals cap bytes X → Journals cap (bytes ++ []) X = λ X j. subst (λ (bs : List ℕ). Journals cap bs X) (sym (append-nil bytes)) j in
    let on = journal_goes_on cap bytes [] A B h (at_end B k) in
    let back = journal_goes_on cap bytes [] B A k (at_end A h) in
    let none : length on.0 ≤ 0 = omega (arith, ap length on.1, ap length back.1, length-append A on.0, length-append B back.0) in
    sym (on.1 ∙ ap (λ (X : List Submission). A ++ X) (empty on.0 none) ∙ append-nil A)

-- ---- a sealed line

-- what ends the line that is sealed
abbrev pub tabs : List ℕ
tabs = 9 ∷ 9 ∷ 9 ∷ 9 ∷ []

pub tabs_quiet : IsQuiet tabs
tabs_quiet = All-from_recursion (λ b. is_line_feed b ≡ false) tabs (refl, (refl, (refl, (refl, tt))))

no_return : (p : List ℕ) → strip_carriage_return (p ++ tabs) ≡ p ++ tabs
no_return p = strip_same (p ++ tabs) (λ front e.
    let last : 9 ≡ 13 = (same_from_push (p ++ 9 ∷ 9 ∷ 9 ∷ []) front 9 13 (append_assoc p (9 ∷ 9 ∷ 9 ∷ []) (9 ∷ []) ∙ e)).1 in
    omega (arith, last))

four_tabs : (p : List ℕ) → 4 ≤ count_by (λ b. eqb b 9) (p ++ tabs)
four_tabs p = let parts = sum_by-append (λ b. cond (eqb b 9) 1 0) p tabs in omega (arith, parts)

pub five_fields : (p : List ℕ) → length (fields_of (p ++ tabs)) ≢ 4
five_fields p is =
    let cut = ap (λ w. length (slice_split (λ b. eqb b 9) w)) (no_return p) in
    omega (arith, is, cut, length-slice_split (λ b. eqb b 9) (p ++ tabs), four_tabs p)

sealed_refused : (p : List ℕ) → (e : Refusal) × Refuses (p ++ tabs) e × (e ≢ Memory)
sealed_refused p =
    elim (cases_lt line_limit (length (p ++ tabs))) [
      | inl long ↦ (Long, first_due Long (p ++ tabs) (none_at_first (p ++ tabs)) long, λ q. (cc))
      | inr short ↦ (Shape, shape_refused (p ++ tabs) short (five_fields p), λ q. (cc))
    ]

kept_refusal : (e : Refusal) → e ≢ Memory → Kept (Err e)
kept_refusal e other is = other (cc)

-- ---- lines that are put on

replays_on : (cap : ℕ) (A B : List Submission) (ls more : List (List ℕ)) (R : List Answer) → Replays cap ls A → Run cap A more R B → All Kept R
    → Replays cap (ls ++ more) B
replays_on most A B ls more R h run remembered = record {
  answers = h.answers ++ R;
  run = runs_join most [] A B ls more h.answers R h.run run;
  remembered = All-append Kept h.answers R h.remembered remembered;
}

-- ---- a journal that is mended

-- it holds A, and its last line isn't torn
record IsWhole (cap : ℕ) (bytes : List ℕ) (A : List Submission) : Type 0 where
  holds : Journals cap bytes A
  ended : last_piece bytes ≡ []

nothing_left : (p : List ℕ) → nat_lt 0 (length p) ≡ false → p ≡ []
nothing_left [] none = refl
nothing_left (b ∷ p) none = absurd (omega (arith, ltb-false 0 (length (b ∷ p)) none))

sealed : (cap : ℕ) (bytes : List ℕ) (A : List Submission) → Journals cap bytes A → IsWhole cap (bytes ++ seal) A
sealed cap bytes A h =
    let line : List ℕ = last_piece bytes ++ tabs in
    let refused = sealed_refused (last_piece bytes) in record {
      holds = subst (λ ls. Replays cap ls A) (sym (ended_lines-ended bytes tabs tabs_quiet))
          (replays_on cap A A (ended_lines bytes) (line ∷ []) (Err refused.0 ∷ []) h (A, steps.refused refused.0 refused.1 refl refl, refl)
          (All-cons Kept (Err refused.0) [] (kept_refusal refused.0 refused.2) (All-nil Kept)));
      ended = last_piece-ended bytes tabs tabs_quiet;
    }

mended : (cap : ℕ) (bytes : List ℕ) (A : List Submission) → Journals cap bytes A → IsWhole cap (bytes ++ mending bytes) A
mended cap bytes A h =
    let Mends : Bool → Type 0 = λ v. IsWhole cap (bytes ++ (if v then seal else [])) A in
    elim (cases_Bool (is_torn bytes)) [
      | inl torn ↦ subst Mends (sym torn) (sealed cap bytes A h)
      | inr whole ↦ subst Mends (sym whole) (subst (λ bs. IsWhole cap bs A) (sym (append-nil bytes)) (record { holds = h; ended = nothing_left (last_piece bytes) whole }))
    ]

-- ---- and gains lines

put_on : (cap : ℕ) (bytes text : List ℕ) (A G : List Submission) → IsWhole cap bytes A → All IsSubmission G → HaveOwnIds (A ++ G) → length (A ++ G) ≤ cap → GameLines G text
    → Journals cap (bytes ++ text) (A ++ G)
put_on cap bytes text A G h games own room put = by (given cap A G games own (omega (arith, room, length-append A G)))
  where
    by : Given cap A G (texts_of G) → Journals cap (bytes ++ text) (A ++ G)
    by k =
        subst (λ ls. Replays cap ls (A ++ G)) (sym (ap (λ t. ended_lines (bytes ++ t)) put ∙ (lines_put bytes (texts_of G) h.ended (quiet_texts G games)).0))
        (replays_on cap A (A ++ G) (ended_lines bytes) (texts_of G) k.answers h.holds k.run (All-weaker IsOk Kept remembered k.answers k.taken))
      where
        remembered : (r : Answer) → IsOk r → Kept r
        remembered (Ok n) ok = λ is. (cc)
        remembered (Err e) ok = let no : false ≡ true = ok in cc

pub journal_grows : (cap : ℕ) (bytes text : List ℕ) (A G : List Submission) → Journals cap bytes A → All IsSubmission G → HaveOwnIds (A ++ G) → length (A ++ G) ≤ cap → GameLines G text → Journals cap (bytes ++ mending bytes ++ text) (A ++ G)
journal_grows cap bytes text A G h games own room put =
    put_on cap (bytes ++ mending bytes) text A G (mended cap bytes A h) games own room put

-- ---- the last of which may be torn

-- the line of one more game
pub GameLines-push : (G : List Submission) (text : List ℕ) (g : Submission) (line : List ℕ) → GameLines G text → line ≡ submission_text g → GameLines (G ++ g ∷ []) (text ++ with_end line)
GameLines-push G text g line put spells =
    let t = submission_text g in
    ap (λ bs. bs ++ with_end line) put ∙ ap (λ l. flat_map with_end (texts_of G) ++ with_end l) spells
    ∙ ap (λ bs. flat_map with_end (texts_of G) ++ bs) (sym (append-nil (with_end t))) ∙ sym (flat_map-append with_end (texts_of G) (t ∷ []))
    ∙ ap (flat_map with_end) (sym (map-append submission_text G (g ∷ [])))

pub journal_may_tear : (cap : ℕ) (bytes text : List ℕ) (A G : List Submission) (g : Submission) (n : ℕ) → Journals cap bytes A → All IsSubmission (G ++ g ∷ []) → HaveOwnIds (A ++ G ++ g ∷ []) → length (A ++ G ++ g ∷ []) ≤ cap → GameLines G text → let front = bytes ++ mending bytes ++ text ++ take n (with_end (submission_text g)) in Journals cap front (A ++ G) ⊎ Journals cap front (A ++ G ++ g ∷ [])
journal_may_tear cap bytes text A G g n h games own room put =
    elim (cases_lt (length (submission_text g)) n) [
      | inl past ↦ inr (subst (λ bs. Journals cap (whole ++ bs) (A ++ G ++ g ∷ [])) (sym (take_all n (with_end (submission_text g)) (omega (arith, past, length-append (submission_text g) (10 ∷ []))))) grown)
      | inr within ↦ inl (subst (λ ls. Replays cap ls (A ++ G)) (sym (unseen within)) (journal_grows cap bytes text A G h front_games front_own front_room put))
    ]
  where
    whole : List ℕ
    whole = bytes ++ mending bytes ++ text

    joined : A ++ G ++ g ∷ [] ≡ A ++ (G ++ g ∷ [])
    joined = append_assoc A G (g ∷ [])

    grown : Journals cap (whole ++ with_end (submission_text g)) (A ++ G ++ g ∷ [])
    grown =
        let all = journal_grows cap bytes (text ++ with_end (submission_text g)) A (G ++ g ∷ []) h games (subst HaveOwnIds joined own) (omega (arith, room, ap length joined)) (GameLines-push G text g (submission_text g) put refl) in
        subst (λ bs. Journals cap bs (A ++ G ++ g ∷ [])) (sym (append_assoc (bytes ++ mending bytes) text (with_end (submission_text g))))
        (subst (Journals cap (bytes ++ mending bytes ++ (text ++ with_end (submission_text g)))) (sym joined) all)

    front_games : All IsSubmission G
    front_games = All-same IsSubmission G (take (length G) (G ++ g ∷ [])) (sym (take-append_seam G (g ∷ []))) (All-take IsSubmission (length G) (G ++ g ∷ []) games)

    front_own : HaveOwnIds (A ++ G)
    front_own = HaveOwnIds-front (A ++ G) (g ∷ []) own

    front_room : length (A ++ G) ≤ cap
    front_room = omega (arith, room, length-append (A ++ G) (g ∷ []))

    lawful : IsSubmission g
    lawful = All-head IsSubmission g [] (All-same IsSubmission (g ∷ []) (drop (length G) (G ++ g ∷ [])) (sym (drop-append_seam G (g ∷ []))) (All-drop IsSubmission (length G) (G ++ g ∷ []) games))

    -- a front of the line without its LF ends no line
    unseen : n ≤ length (submission_text g) → ended_lines (whole ++ take n (with_end (submission_text g))) ≡ ended_lines whole
    unseen within =
        ap (λ bs. ended_lines (whole ++ bs)) (take-append-le n (submission_text g) (10 ∷ []) within)
        ∙ ended_lines-quiet whole (take n (submission_text g)) (All-take (λ b. is_line_feed b ≡ false) n (submission_text g) (quiet_text g lawful))

-- a front of what mends a journal changes nothing
pub mending_may_tear : (cap : ℕ) (bytes : List ℕ) (A : List Submission) (n : ℕ) → Journals cap bytes A → Journals cap (bytes ++ take n (mending bytes)) A
mending_may_tear cap bytes A n h =
    let Mends : Bool → Type 0 = λ v. Journals cap (bytes ++ take n (if v then seal else [])) A in
    elim (cases_Bool (is_torn bytes)) [
      | inl torn ↦ subst Mends (sym torn) (by (cases_lt 4 n))
      | inr whole ↦ subst Mends (sym whole) (subst (λ bs. Journals cap bs A) (sym (ap (λ bs. bytes ++ bs) (take_all n [] (omega arith)) ∙ append-nil bytes)) h)
    ]
  where
    by : (4 < n) ⊎ (n ≤ 4) → Journals cap (bytes ++ take n seal) A
    by (inl past) = subst (λ bs. Journals cap (bytes ++ bs) A) (sym (take_all n seal (omega (arith, past)))) (sealed cap bytes A h).holds
    by (inr within) =
        subst (λ ls. Replays cap ls A)
        (sym (ap (λ bs. ended_lines (bytes ++ bs)) (take-append-le n tabs (10 ∷ []) within) ∙ ended_lines-quiet bytes (take n tabs) (All-take (λ b. is_line_feed b ≡ false) n tabs tabs_quiet))) h
