-- What the lines of games hold.
use Rattle.std.proofs.Common.{◌≡◌, ◌≢◌, ◌∙◌, ℕ, ◌+◌, ◌<◌, ◌≤◌, Bool, true, false, cond, ◌&&◌, eqb, List, [], ◌∷◌, ◌++◌, length, map, Err, refl, sym, ap, subst, inl, inr, arith, append-nil}
use Rattle.std.specs.List.{All, count_by, filter, flat_map}
use Rattle.std.specs.Prelude.{nat_le, if◌then◌else◌}
use Rattle.std.specs.Str.Lines.{strip_carriage_return}
use Rattle.std.proofs.lemmas.Bool.{cases_Bool, eqb-true, le-leb, leb-true, ne_eqb}
use Rattle.std.proofs.lemmas.List.Elements.{All-cons, All-filter, All-head, All-map, All-tail, All-weaker}
use Rattle.std.proofs.lemmas.Bool.Decides.{nat_tests}
use Rattle.std.proofs.lemmas.List.Splits.{length-slice_split}
use Rattle.std.proofs.lemmas.Slice.Eq.{bytes_eq-Decides}
use Rattle.pb_board.specs.Fields.{fields, tab}
use Rattle.pb_board.specs.LineEnd.{with_end}
use Rattle.pb_board.proofs.LineEnds.{length-strip}
use Rattle.pb_io.specs.Lines.{ended_lines, is_torn, last_piece, line_feed, line_limit}
use Rattle.pb_io.proofs.LineLemmas.{IsQuiet, is_line_feed, ended_lines-ended, ended_lines-quiet}
use Rattle.pb_games.specs.declared.refusal.Refusal.{Refusal}
use Rattle.pb_games.specs.declared.refusal.Refusal.TheVariants as refusal
use Rattle.pb_games.specs.Cuts.{fields_of}
use Rattle.pb_games.specs.Refusing.{IsDue, Refuses}
use Rattle.pb_games.specs.Submissions.{Submits, IsSubmission, Submission, submission_text}
use Rattle.pb_games.proofs.Texts.{fields_back, lawful_submission, short_line}
use Rattle.pb_accepted.specs.Accepting as steps
use Rattle.pb_accepted.specs.Accepting.{Answer, Run, Step}
use Rattle.pb_ledger.specs.Journal.{games_text, has_one_end, has_shape, text_of_games, Replays, seal, Journals, GameLines, mending}
use Rattle.pb_ledger.specs.Saving.{header, Saved}
use Rattle.pb_ledger.proofs.Journals.{five_fields, tabs, tabs_quiet}
use Rattle.pb_ledger.proofs.LinesPut.{lines_alone, quiet_ended, quiet_strip}
use Rattle.pb_ledger.proofs.SavedLoading.{header_quiet, lawful_text, quiet_texts, texts_of}

-- ---- the shape of a line

both : (a b : Bool) → (a && b) ≡ true → (a ≡ true) × (b ≡ true)
both true b h = (refl, h)
both false b h = let no : false ≡ true = h in cc

record Shaped (line : List ℕ) : Type 0 where
  short : length line ≤ 8192
  one : strip_carriage_return (strip_carriage_return line) ≡ strip_carriage_return line
  four : length (fields_of line) ≡ 4

shaped : (line : List ℕ) → has_shape line ≡ true → Shaped line
shaped line is =
    let first = both (nat_le (length line) 8192) (has_one_end line && eqb (length (fields_of line)) 4) is in
    let next = both (has_one_end line) (eqb (length (fields_of line)) 4) first.1 in record {
      short = leb-true (length line) 8192 first.0;
      one = (bytes_eq-Decides (strip_carriage_return (strip_carriage_return line)) (strip_carriage_return line)).0 next.0;
      four = eqb-true (length (fields_of line)) 4 next.1;
    }

has_that_shape : (line : List ℕ) → Shaped line → has_shape line ≡ true
has_that_shape line is =
    let text : List ℕ = strip_carriage_return line in
    ap (λ b. b && (has_one_end line && eqb (length (fields_of line)) 4)) (le-leb (length line) 8192 is.short)
    ∙ ap (λ b. b && eqb (length (fields_of line)) 4) ((bytes_eq-Decides (strip_carriage_return text) text).1 is.one) ∙ ap (λ n. eqb n 4) is.four

-- it is told by its TABs
pub shape_by_tabs : (line : List ℕ) → length line ≤ 8192 → strip_carriage_return (strip_carriage_return line) ≡ strip_carriage_return line
    → eqb (count_by (λ b. eqb b 9) (strip_carriage_return line)) 3 ≡ has_shape line
shape_by_tabs line short one =
    let text : List ℕ = strip_carriage_return line in
    let count : ℕ = count_by (λ b. eqb b 9) text in
    let fourth : eqb (count + 1) 4 ≡ eqb count 3 = grind (arith, nat_tests) in
    sym (ap (λ b. b && (has_one_end line && eqb (length (fields_of line)) 4)) (le-leb (length line) 8192 short)
    ∙ ap (λ b. b && eqb (length (fields_of line)) 4) ((bytes_eq-Decides (strip_carriage_return text) text).1 one)
    ∙ ap (λ n. eqb n 4) (length-slice_split (λ b. eqb b 9) text) ∙ fourth)

no_four : (line : List ℕ) → length (fields_of line) ≢ 4 → has_shape line ≡ false
no_four line other = elim (cases_Bool (has_shape line)) [
  | inl is ↦ absurd (other (shaped line is).four)
  | inr differs ↦ differs
]

-- a line that submits a legal game has it
lawful_shape : (line : List ℕ) (s : Submission) → Submits line s → has_shape line ≡ true
lawful_shape line s h =
    let text = lawful_text s (lawful_submission line s h) in
    has_that_shape line (record {
      short = omega (arith, short_line line s h);
      one = ap strip_carriage_return h.text ∙ text.text ∙ sym h.text;
      four = ap length (fields_back line s h);
    })

-- ---- a line of that shape and what is put of it

-- a refusal that is due of one line is due of another with the same parts, the length aside
across : (from to : List ℕ) (parts : List (List ℕ)) (r : Refusal) → (line_limit < length from → line_limit < length to) → IsDue from parts r → IsDue to parts r
across from to parts refusal.Long longer h = longer h
across from to parts refusal.Shape longer h = h
across from to parts refusal.Id longer h = h
across from to parts refusal.Result longer h = h
across from to parts (refusal.Fen e) longer h = h
across from to parts refusal.Start longer h = h
across from to parts (refusal.Spelling n) longer h = h
across from to parts refusal.Plies longer h = h
across from to parts (refusal.Illegal n) longer h = h
across from to parts (refusal.Conflict n) longer h = absurd h
across from to parts refusal.Full longer h = absurd h
across from to parts refusal.Memory longer h = absurd h

module _ (line : List ℕ) (is : Shaped line) where
  abbrev bare : List ℕ
  bare = strip_carriage_return line

  abbrev parts_of : List ℕ → List (List ℕ)
  parts_of text = fields tab (strip_carriage_return text)

  same_parts : parts_of bare ≡ parts_of line
  same_parts = ap (fields tab) is.one

  lawful_bare : (s : Submission) → Submits line s → Submits bare s
  lawful_bare s h = record { text = is.one ∙ h.text; id = h.id; start = h.start; playable = h.playable; few = h.few; legal = h.legal }

  refuses_bare : (e : Refusal) → Refuses line e → Refuses bare e
  refuses_bare e h = record {
    due = subst (λ parts. IsDue bare parts e) (sym same_parts) (across line bare (parts_of line) e (λ long. absurd (omega (arith, long, is.short))) h.due);
    first = λ cause m n before after are.
        All-weaker (λ d. ¬ IsDue line (parts_of line) d) (λ d. ¬ IsDue bare (parts_of bare) d)
        (λ d none due. none (across bare line (parts_of line) d (λ long. omega (arith, long, length-strip line)) (subst (λ parts. IsDue bare parts d) same_parts due))) before
        (h.first cause m n before after are);
  }

  step_bare : (cap : ℕ) (A : List Submission) (r : Answer) (B : List Submission) → Step cap A line r B → Step cap A bare r B
  step_bare cap A r B (steps.new s law fresh room answer grown) = steps.new s (lawful_bare s law) fresh room answer grown
  step_bare cap A r B (steps.full s law fresh none answer same) = steps.full s (lawful_bare s law) fresh none answer same
  step_bare cap A r B (steps.memory s law fresh room answer same) = steps.memory s (lawful_bare s law) fresh room answer same
  step_bare cap A r B (steps.repeat s n law held answer same) = steps.repeat s n (lawful_bare s law) held answer same
  step_bare cap A r B (steps.conflict s g n law held other answer same) = steps.conflict s g n (lawful_bare s law) held other answer same
  step_bare cap A r B (steps.refused e refuses answer same) = steps.refused e (refuses_bare e refuses) answer same

-- a line of another shape brings no game
unmoved : (cap : ℕ) (A : List Submission) (line : List ℕ) (r : Answer) (B : List Submission) → has_shape line ≡ false → Step cap A line r B → B ≡ A
unmoved cap A line r B other (steps.new s law fresh room answer grown) = let no : false ≡ true = sym other ∙ lawful_shape line s law in cc
unmoved cap A line r B other (steps.full s law fresh none answer same) = same
unmoved cap A line r B other (steps.memory s law fresh room answer same) = same
unmoved cap A line r B other (steps.repeat s n law held answer same) = same
unmoved cap A line r B other (steps.conflict s g n law held differs answer same) = same
unmoved cap A line r B other (steps.refused e refuses answer same) = same

-- ---- lines

abbrev games_of : List (List ℕ) → List (List ℕ)
games_of ls = map strip_carriage_return (filter has_shape ls)

game_first : (line : List ℕ) (ls : List (List ℕ)) → has_shape line ≡ true → strip_carriage_return line ∷ games_of ls ≡ games_of (line ∷ ls)
game_first line ls is = ap (λ b. map strip_carriage_return (cond b (line ∷ filter has_shape ls) (filter has_shape ls))) (sym is)

none_first : (line : List ℕ) (ls : List (List ℕ)) → has_shape line ≡ false → games_of ls ≡ games_of (line ∷ ls)
none_first line ls is = ap (λ b. map strip_carriage_return (cond b (line ∷ filter has_shape ls) (filter has_shape ls))) (sym is)

abbrev Kept : Answer → Type 0
Kept r = r ≢ Err refusal.Memory

-- what becomes of a list by some lines becomes of it by those of games
record Along (cap : ℕ) (A : List Submission) (ls : List (List ℕ)) (B : List Submission) : Type 0 where
  answers : List Answer
  run : Run cap A (games_of ls) answers B
  kept : All Kept answers

games_run : (cap : ℕ) (A : List Submission) (ls : List (List ℕ)) (R : List Answer) (B : List Submission) → Run cap A ls R B → All Kept R → Along cap A ls B
games_run cap A [] [] B run kept = record { answers = []; run = run; kept = kept }
games_run cap A [] (r ∷ R) B run kept = absurd run
games_run cap A (line ∷ ls) [] B run kept = absurd run
games_run cap A (line ∷ ls) (r ∷ R) B run kept =
    let M : List Submission = run.0 in
    let rest = games_run cap M ls R B run.2 (All-tail Kept r R kept) in
    elim (cases_Bool (has_shape line)) [
      | inl is ↦ record {
        answers = r ∷ rest.answers;
        run = subst (λ ks. Run cap A ks (r ∷ rest.answers) B) (game_first line ls is) (M, step_bare line (shaped line is) cap A r M run.1, rest.run);
        kept = All-cons Kept r rest.answers (All-head Kept r R kept) rest.kept;
      }
      | inr differs ↦ record {
        answers = rest.answers;
        run = subst (λ ks. Run cap A ks rest.answers B) (none_first line ls differs)
            (subst (λ (X : List Submission). Run cap X (games_of ls) rest.answers B) (unmoved cap A line r M differs run.1) rest.run);
        kept = rest.kept;
      }
    ]

quiet_games : (bytes : List ℕ) → All IsQuiet (games_of (ended_lines bytes))
quiet_games bytes =
    let ls : List (List ℕ) = filter has_shape (ended_lines bytes) in
    All-map IsQuiet strip_carriage_return ls (All-weaker IsQuiet (λ line. IsQuiet (strip_carriage_return line)) quiet_strip ls (All-filter has_shape IsQuiet (ended_lines bytes) (quiet_ended bytes)))

pub games_are_held : (cap : ℕ) (bytes : List ℕ) (A : List Submission) → Journals cap bytes A → Journals cap (games_text bytes) A
games_are_held cap bytes A h =
    let along = games_run cap [] (ended_lines bytes) h.answers A h.run h.remembered in
    let alone = (lines_alone (games_of (ended_lines bytes)) (quiet_games bytes)).0 in
    subst (λ ls. Replays cap ls A) (sym alone) (record { answers = along.answers; run = along.run; remembered = along.kept })

-- ---- lines of games alone

games_of_texts : (A : List Submission) → All IsSubmission A → games_of (texts_of A) ≡ texts_of A
games_of_texts [] games = refl
games_of_texts (s ∷ A) games =
    let t = submission_text s in
    let law = lawful_text s (All-head IsSubmission s A games) in
    sym (game_first t (texts_of A) (lawful_shape t s law)) ∙ ap (λ line. line ∷ games_of (texts_of A)) law.text
    ∙ ap (λ (ls : List (List ℕ)). t ∷ ls) (games_of_texts A (All-tail IsSubmission s A games))

pub game_lines_are_picked : (A : List Submission) (bytes : List ℕ) → All IsSubmission A → GameLines A bytes → games_text bytes ≡ bytes
game_lines_are_picked A bytes games is =
    ap games_text is ∙ ap text_of_games (lines_alone (texts_of A) (quiet_texts A games)).0 ∙ ap (flat_map with_end) (games_of_texts A games) ∙ sym is

pub saved_games_are_picked : (A : List Submission) (bytes : List ℕ) → All IsSubmission A → Saved A bytes → GameLines A (games_text bytes)
saved_games_are_picked A bytes games is =
    let quiet = All-cons IsQuiet header (texts_of A) header_quiet (quiet_texts A games) in
    ap games_text is ∙ ap text_of_games (lines_alone (header ∷ texts_of A) quiet).0
    ∙ ap (flat_map with_end) (sym (none_first header (texts_of A) refl) ∙ games_of_texts A games)

-- ---- torn lines

pub torn_adds_no_game : (bytes torn : List ℕ) → All (λ b. b ≢ line_feed) torn → games_text (bytes ++ torn) ≡ games_text bytes
torn_adds_no_game bytes torn other =
    ap text_of_games (ended_lines-quiet bytes torn (All-weaker (λ b. b ≢ line_feed) (λ b. is_line_feed b ≡ false) (λ b. ne_eqb b 10) torn other))

-- one line more that isn't of games
games_behind : (ls : List (List ℕ)) (line : List ℕ) → has_shape line ≡ false → games_of (ls ++ line ∷ []) ≡ games_of ls
games_behind [] line differs = sym (none_first line [] differs)
games_behind (l ∷ ls) line differs =
    let rest = games_behind ls line differs in
    elim (cases_Bool (has_shape l)) [
      | inl is ↦ sym (game_first l (ls ++ line ∷ []) is) ∙ ap (λ ks. strip_carriage_return l ∷ ks) rest ∙ game_first l ls is
      | inr other ↦ sym (none_first l (ls ++ line ∷ []) other) ∙ rest ∙ none_first l ls other
    ]

sealed_adds_no_game : (bytes : List ℕ) → games_text (bytes ++ seal) ≡ games_text bytes
sealed_adds_no_game bytes =
    let line : List ℕ = last_piece bytes ++ tabs in
    ap text_of_games (ended_lines-ended bytes tabs tabs_quiet) ∙ ap (flat_map with_end) (games_behind (ended_lines bytes) line (no_four line (five_fields (last_piece bytes))))

pub mending_adds_no_game : (bytes : List ℕ) → games_text (bytes ++ mending bytes) ≡ games_text bytes
mending_adds_no_game bytes =
    let Adds : Bool → Type 0 = λ v. games_text (bytes ++ (if v then seal else [])) ≡ games_text bytes in
    elim (cases_Bool (is_torn bytes)) [
      | inl torn ↦ subst Adds (sym torn) (sealed_adds_no_game bytes)
      | inr whole ↦ subst Adds (sym whole) (ap games_text (append-nil bytes))
    ]
