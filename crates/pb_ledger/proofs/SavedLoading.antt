-- What is saved of games loads as these games, and a run goes on from there.
use Rattle.std.proofs.Common.{zero, suc, ◌≡◌, ◌∙◌, ℕ, ◌+◌, ◌<◌, ◌≤◌, List, [], ◌∷◌, ◌++◌, Some, None, length, drop, take, get_or, slice_get, map, refl, sym, ap, subst, arith, append-nil, append_assoc, ◌≢◌, true, false, Ok, Err, All, IsOk, inl, inr}
use Rattle.std.specs.List.{flat_map, join_with_byte}
use Rattle.std.proofs.Math.ListN.{drop_of_length-le}
use Rattle.std.proofs.lemmas.Grind.{flat_map-append}
use Rattle.std.proofs.lemmas.List.{drop_more, take-append-drop, take_more, get_or_append_left, get_or_default, length-append, length-map, length_push, map-append}
use Rattle.pb_board.specs.LineEnd.{with_end}
use Rattle.pb_moves.specs.Moved.{Moved}
use Rattle.pb_moves.specs.Spelling.{spelling}
use Rattle.pb_games.specs.Submissions.{Submission, moves_text, submission_text, Submits, IsSubmission}
use Rattle.pb_accepted.specs.Replying.{IsNumber, IsNewId, HaveOwnIds}
use Rattle.pb_ledger.specs.Saving.{Saved, header, Breaks, Loads, LoadsUntil, is_header}
use Rattle.std.proofs.Math.Seq.{get_or-append_seam}
use Rattle.std.proofs.lemmas.Bool.{eqb-true, false_from_ne_true}
use Rattle.std.proofs.lemmas.List.Elements.{All-append, All-cons, All-from_recursion, All-head, All-map, All-nil, All-tail, All-weaker}
use Rattle.pb_io.specs.Source.{SourceState, chunk_len}
use Rattle.pb_io.specs.Lines.{ended_lines, lines}
use Rattle.pb_io.specs.LineTask.{AtEnd}
use Rattle.pb_io.proofs.LineLemmas.{IsQuiet, is_line_feed, lines-begin, lines-ended}
use Rattle.pb_poly.specs.Reading.{Tells}
use Rattle.pb_poly.proofs.ToldReads.{all_came, came_first, no_endless, no_fault}
use Rattle.pb_games.proofs.Texts.{one_line, submits}
use Rattle.pb_accepted.specs.Accepting as steps
use Rattle.pb_accepted.specs.Accepting.{Answer, Run, Step, replies, reply_line}
use Rattle.pb_accepted.specs.Ledger.{LedgerState}
use Rattle.pb_accepted.proofs.Replies.{id_of, one_submission}
use Rattle.pb_accepted.proofs.Steps.{step_to, distinct_ids, runs_join}
use Rattle.pb_ledger.specs.Change.{Makes, from_to}
use Rattle.pb_ledger.specs.declared.saving.LoadError.{LoadError}
use Rattle.pb_ledger.specs.declared.saving.LoadError.TheVariants.{Line, Read, Endless, Memory}
use Rattle.pb_accepted.proofs.Held.{are_submissions, has_room}

-- ---- the lines of a saved form

-- ---- a game's moves

-- a space and the spelling of a move
abbrev pub spaced : Moved → List ℕ
spaced m = 32 ∷ spelling m

-- the spellings of the moves after the first
abbrev pub further : List Moved → List ℕ
further ms = flat_map spaced ms

pub moves_further : (m : Moved) (ms : List Moved) → moves_text (m ∷ ms) ≡ spelling m ++ further ms
moves_further m [] = sym (append-nil (spelling m))
moves_further m (n ∷ ms) = ap (λ xs. spelling m ++ 32 ∷ xs) (moves_further n ms)

-- the line of moves from one on
pub further_from : (ms : List Moved) (i : ℕ) (m : Moved) → m ≡ get_or ms i m → i < length ms → with_end (further (drop i ms)) ≡ spaced m ++ with_end (further (drop (i + 1) ms))
further_from ms i m is below =
    ap (λ (xs : List Moved). with_end (further xs)) (drop_more ms i m below)
    ∙ append_assoc (spaced (get_or ms i m)) (further (drop (i + 1) ms)) (10 ∷ [])
    ∙ ap (λ (n : Moved). spaced n ++ with_end (further (drop (i + 1) ms))) (sym is)

-- after the last one
pub further_end : (ms : List Moved) (i : ℕ) → length ms ≤ i → with_end (further (drop i ms)) ≡ 10 ∷ []
further_end ms i past = ap (λ (xs : List Moved). with_end (further xs)) (drop_of_length-le ms past)

-- the line that begins with a move
pub line_from_first : (moves ms : List Moved) (m : Moved) (text : List ℕ) → moves ≡ m ∷ ms → text ≡ spelling m → text ++ with_end (further ms) ≡ with_end (moves_text moves)
line_from_first moves ms m text are is =
    ap (λ xs. xs ++ with_end (further ms)) is ∙ sym (append_assoc (spelling m) (further ms) (10 ∷ [])) ∙ ap with_end (sym (moves_further m ms)) ∙ ap (λ (xs : List Moved). with_end (moves_text xs)) (sym are)

-- ---- a game's line

-- the line of four fields, of which the first three have a TAB after them
pub four_fields : (a b c d : List ℕ) → (a ++ 9 ∷ []) ++ ((b ++ 9 ∷ []) ++ ((c ++ 9 ∷ []) ++ with_end d)) ≡ with_end (join_with_byte 9 (a ∷ b ∷ c ∷ d ∷ []))
four_fields a b c d =
    append_assoc a (9 ∷ []) ((b ++ 9 ∷ []) ++ ((c ++ 9 ∷ []) ++ with_end d))
    ∙ ap (λ xs. a ++ 9 ∷ xs) (append_assoc b (9 ∷ []) ((c ++ 9 ∷ []) ++ with_end d) ∙ ap (λ xs. b ++ 9 ∷ xs) (append_assoc c (9 ∷ []) (with_end d) ∙ sym (append_assoc c (9 ∷ d) (10 ∷ [])))
    ∙ sym (append_assoc b (9 ∷ (c ++ 9 ∷ d)) (10 ∷ [])))
    ∙ sym (append_assoc a (9 ∷ (b ++ 9 ∷ (c ++ 9 ∷ d))) (10 ∷ []))

-- the same of fields that are put as they are given
pub game_line : (a b c d id outcome fen : List ℕ) → a ≡ id → b ≡ outcome → c ≡ fen
    → (a ++ 9 ∷ []) ++ ((b ++ 9 ∷ []) ++ ((c ++ 9 ∷ []) ++ with_end d)) ≡ with_end (join_with_byte 9 (id ∷ outcome ∷ fen ∷ d ∷ []))
game_line a b c d id outcome fen ha hb hc =
    four_fields a b c d ∙ ap (λ x. with_end (join_with_byte 9 (x ∷ b ∷ c ∷ d ∷ []))) ha ∙ ap (λ x. with_end (join_with_byte 9 (id ∷ x ∷ c ∷ d ∷ []))) hb
    ∙ ap (λ x. with_end (join_with_byte 9 (id ∷ outcome ∷ x ∷ d ∷ []))) hc

-- ---- all games' lines

-- the text of one of them stands in its place
text_at : (A : List Submission) (i : ℕ) (s : Submission) → slice_get A i ≡ Some s
    → (submission_text s ≡ get_or (map submission_text A) i []) × (i < length (map submission_text A))
text_at [] i s at = let bad : None ≡ Some s = at in cc
text_at (x ∷ A) zero s at = let here : Some x ≡ Some s = at in let same : x ≡ s = cc in (ap submission_text (sym same), omega arith)
text_at (x ∷ A) (suc i) s at = let rest = text_at A i s at in (rest.0, omega (arith, rest.1))

pub numbered_text : (A : List Submission) (i : ℕ) (s : Submission) → IsNumber A (i + 1) s
    → (submission_text s ≡ get_or (map submission_text A) i []) × (i < length (map submission_text A))
numbered_text A i s at = text_at A i s (subst (λ k. slice_get A k ≡ Some s) (omega (arith, at.1)) at.2)

module _ (texts : List (List ℕ)) (i : ℕ) (text : List ℕ) (is : text ≡ get_or texts i []) (below : i < length texts) where
  -- the lines up to one, that one, and those after it
  pub lines_at : flat_map with_end (header ∷ take i texts) ++ (with_end text ++ flat_map with_end (drop (i + 1) texts)) ≡ flat_map with_end (header ∷ texts)
  lines_at =
      append_assoc (with_end header) (flat_map with_end (take i texts)) (with_end text ++ flat_map with_end (drop (i + 1) texts))
      ∙ ap (λ xs. with_end header ++ xs)
      (sym (flat_map-append with_end (take i texts) (text ∷ drop (i + 1) texts))
      ∙ ap (λ t. flat_map with_end (take i texts ++ t ∷ drop (i + 1) texts)) is
      ∙ ap (λ xs. flat_map with_end (take i texts ++ xs)) (sym (drop_more texts i [] below)) ∙ ap (flat_map with_end) (take-append-drop i texts))

  -- one line more
  pub lines_more : flat_map with_end (header ∷ take i texts) ++ with_end text ≡ flat_map with_end (header ∷ take (i + 1) texts)
  lines_more =
      append_assoc (with_end header) (flat_map with_end (take i texts)) (with_end text)
      ∙ ap (λ xs. with_end header ++ xs)
      (ap (λ xs. flat_map with_end (take i texts) ++ xs) (sym (append-nil (with_end text)))
      ∙ sym (flat_map-append with_end (take i texts) (text ∷ []))
      ∙ ap (λ t. flat_map with_end (take i texts ++ t ∷ [])) is ∙ ap (flat_map with_end) (sym (take_more texts i [] below)))

-- each list of submissions has a saved form
pub saved_form : (A : List Submission) → (bytes : List ℕ) × Saved A bytes
saved_form A = (flat_map with_end (header ∷ map submission_text A), refl)

-- ---- the lines of a saved form

-- the texts of submissions
abbrev pub texts_of : List Submission → List (List ℕ)
texts_of A = map submission_text A

pub quiet_text : (s : Submission) → IsSubmission s → IsQuiet (submission_text s)
quiet_text s lawful k d lt = false_from_ne_true _ (λ is. (one_line s lawful.id lawful.game k d lt).0 (eqb-true _ 10 is))

pub quiet_texts : (A : List Submission) → All IsSubmission A → All IsQuiet (texts_of A)
quiet_texts A games = All-map IsQuiet submission_text A (All-weaker IsSubmission (λ s. IsQuiet (submission_text s)) quiet_text A games)

lines_of_texts : (A : List Submission) → All IsSubmission A → lines (flat_map with_end (texts_of A)) ≡ texts_of A
lines_of_texts [] games = refl
lines_of_texts (s ∷ A) games =
    let t = submission_text s in
    let rest = flat_map with_end (texts_of A) in
    ap lines (append_assoc t (10 ∷ []) rest) ∙ lines-ended t rest (quiet_text s (All-head IsSubmission s A games))
    ∙ ap (λ ts. t ∷ ts) (lines_of_texts A (All-tail IsSubmission s A games))

pub header_quiet : IsQuiet header
header_quiet = All-from_recursion (λ b. is_line_feed b ≡ false) header (refl, (refl, (refl, (refl, (refl, (refl, (refl, (refl, (refl, (refl, (refl, (refl, (refl, (refl, tt))))))))))))))

header_is : is_header header ≡ true
header_is = refl

pub lines_of_saved : (A : List Submission) (bytes : List ℕ) → All IsSubmission A → Saved A bytes → lines bytes ≡ header ∷ texts_of A
lines_of_saved A bytes games h =
    let texts = flat_map with_end (texts_of A) in
    ap lines h ∙ ap lines (append_assoc header (10 ∷ []) texts) ∙ lines-ended header texts header_quiet ∙ ap (λ ts. header ∷ ts) (lines_of_texts A games)

-- ---- texts as lines that are submitted

pub lawful_text : (s : Submission) → IsSubmission s → Submits (submission_text s) s
lawful_text s h = submits (submission_text s) s h (inl refl)

module _ (A B : List Submission) (s : Submission) (own : HaveOwnIds (A ++ s ∷ B)) where
  -- one that comes after others has another id
  new_after : IsNewId s.0 A
  new_after k d lt same =
      own k (length A) s lt (omega (arith, length-append A (s ∷ B)))
      (ap id_of (get_or_append_left A (s ∷ B) s k lt ∙ get_or_default A k s d lt) ∙ same ∙ sym (ap id_of (get_or-append_seam A s B s)))

pub HaveOwnIds-front : (A B : List Submission) → HaveOwnIds (A ++ B) → HaveOwnIds A
HaveOwnIds-front A B own i j d lt within =
    subst (λ (s : Submission). s.0 ≢ (get_or A j d).0) (get_or_append_left A B d i (omega (arith, lt, within)))
    (subst (λ (s : Submission). (get_or (A ++ B) i d).0 ≢ s.0) (get_or_append_left A B d j within) (own i j d lt (omega (arith, within, length-append A B))))

-- a lawful line under a new id is added, where it isn't refused
added : (cap : ℕ) (A : List Submission) (line : List ℕ) (s : Submission) (r : Answer) (M : List Submission) → Submits line s → IsNewId s.0 A → IsOk r → Step cap A line r M → M ≡ A ++ s ∷ []
added most A line s (Err e) M law fresh ok step = cc
added most A line s (Ok n) M law fresh ok step = elim (step_to most A line (Ok n) M step).1 [
  | inl adds ↦ adds.4 ∙ ap (λ (t : Submission). A ++ t ∷ []) (one_submission line adds.0 s adds.1 law)
  | inr keeps ↦ absurd (keeps.0 s law fresh (λ q. (cc), λ q. (cc)))
]

-- they are answered with the next numbers
pub record Given (cap : ℕ) (A S : List Submission) (texts : List (List ℕ)) : Type 0 where
  pub answers : List Answer
  pub run : Run cap A texts answers (A ++ S)
  pub taken : All IsOk answers

pub given : (cap : ℕ) (A S : List Submission) → All IsSubmission S → HaveOwnIds (A ++ S) → length A + length S ≤ cap → Given cap A S (texts_of S)
given cap A [] games own room = record { answers = []; run = append-nil A; taken = All-nil IsOk }
given cap A (s ∷ S) games own room =
    let t = submission_text s in
    let texts = texts_of S in
    let law = lawful_text s (All-head IsSubmission s S games) in
    let fresh = new_after A S s own in
    let after : List Submission = A ++ s ∷ [] in
    let joined : after ++ S ≡ A ++ s ∷ S = append_assoc A (s ∷ []) S in
    let rest = given cap after S (All-tail IsSubmission s S games) (subst HaveOwnIds (sym joined) own) (omega (arith, room, length_push A s)) in record {
      answers = Ok (length A + 1) ∷ rest.answers;
      run = (after, steps.new s law fresh (omega (arith, room)) refl refl, subst (λ B. Run cap after texts rest.answers B) joined rest.run);
      taken = All-cons IsOk (Ok (length A + 1)) rest.answers refl rest.taken;
    }

-- and nothing else is added where none is refused
only : (cap : ℕ) (A S B : List Submission) (R : List Answer) → All IsSubmission S → HaveOwnIds (A ++ S) → All IsOk R → Run cap A (texts_of S) R B → B ≡ A ++ S
only most A [] B [] games own taken h = h ∙ sym (append-nil A)
only most A [] B (r ∷ R) games own taken h = absurd h
only most A (s ∷ S) B [] games own taken h = absurd h
only most A (s ∷ S) B (r ∷ R) games own taken h =
    let law = lawful_text s (All-head IsSubmission s S games) in
    let joined : (A ++ s ∷ []) ++ S ≡ A ++ s ∷ S = append_assoc A (s ∷ []) S in
    let next : h.0 ≡ A ++ s ∷ [] = added most A (submission_text s) s r h.0 law (new_after A S s own) (All-head IsOk r R taken) h.1 in
    only most (A ++ s ∷ []) S B R (All-tail IsSubmission s S games) (subst HaveOwnIds (sym joined) own) (All-tail IsOk r R taken) (subst (λ M. Run most M (texts_of S) R B) next h.2) ∙ joined

-- the submission whose text stands after these texts, and those before it
record Cut (S : List Submission) (xs : List (List ℕ)) (y : List ℕ) : Type 0 where
  front : List Submission
  this : Submission
  back : List Submission
  are : S ≡ front ++ this ∷ back
  games : All IsSubmission front
  lawful : IsSubmission this
  before : xs ≡ texts_of front
  here : y ≡ submission_text this

cut_at : (S : List Submission) (xs ys : List (List ℕ)) (y : List ℕ) → All IsSubmission S → texts_of S ≡ xs ++ y ∷ ys → Cut S xs y
cut_at [] [] ys y games is = absurd cc
cut_at [] (x ∷ xs) ys y games is = absurd cc
cut_at (s ∷ S) [] ys y games is =
    let here : submission_text s ≡ y = cc in
    record { front = []; this = s; back = S; are = refl; games = All-nil IsSubmission; lawful = All-head IsSubmission s S games; before = refl; here = sym here }
cut_at (s ∷ S) (x ∷ xs) ys y games is =
    let head : submission_text s ≡ x = cc in
    let tails : texts_of S ≡ xs ++ y ∷ ys = cc in
    let rest = cut_at S xs ys y (All-tail IsSubmission s S games) tails in record {
      front = s ∷ rest.front;
      this = rest.this;
      back = rest.back;
      are = ap (λ (X : List Submission). s ∷ X) rest.are;
      games = All-cons IsSubmission s rest.front (All-head IsSubmission s S games) rest.games;
      lawful = rest.lawful;
      before = ap (λ w. w ∷ xs) (sym head) ∙ ap (λ (ws : List (List ℕ)). submission_text s ∷ ws) rest.before;
      here = rest.here;
    }

-- a header and the texts of submissions make these
pub loads_texts : (cap : ℕ) (S : List Submission) → All IsSubmission S → HaveOwnIds S → length S ≤ cap → Loads cap (header ∷ texts_of S) S
loads_texts cap S games own room = by (given cap [] S games own (omega (arith, room)))
  where
    by : Given cap [] S (texts_of S) → Loads cap (header ∷ texts_of S) S
    by h = record { answers = h.answers; run = h.run; taken = h.taken; new = λ _. sym (length-map S submission_text) }

-- ---- what is loaded of a saved form

module _ (cap : ℕ) (A : List Submission) (bytes : List ℕ) (games : All IsSubmission A) (own : HaveOwnIds A) (room : length A ≤ cap) (saved : Saved A bytes) where
  pub loads_saved : Loads cap (lines bytes) A
  loads_saved = subst (λ (xs : List (List ℕ)). Loads cap xs A) (sym (lines_of_saved A bytes games saved)) (loads_texts cap A games own room)

  pub loads_only : (B : List Submission) → Loads cap (lines bytes) B → B ≡ A
  loads_only B h = by (subst (λ (xs : List (List ℕ)). Loads cap xs B) (lines_of_saved A bytes games saved) h)
    where
      by : Loads cap (header ∷ texts_of A) B → B ≡ A
      by k = only cap [] A B k.answers games own k.taken k.run

  -- ---- no line of it breaks the loading

  -- the first lines of it make the first submissions
  loads_first : (before later : List (List ℕ)) (line : List ℕ) → header ∷ texts_of A ≡ before ++ line ∷ later → (B : List Submission) × Loads cap (before ++ line ∷ []) B
  loads_first [] later line are =
      let same : header ≡ line = cc in
      ([], subst (λ l. Loads cap (l ∷ []) []) same (record { answers = []; run = refl; taken = All-nil IsOk; new = λ _. refl }))
  loads_first (x ∷ before) later line are =
      let head : header ≡ x = cc in
      let tail : texts_of A ≡ before ++ line ∷ later = cc in
      let cut = cut_at A before later line games tail in
      let front : List Submission = cut.front ++ cut.this ∷ [] in
      let whole : A ≡ front ++ cut.back = cut.are ∙ sym (append_assoc cut.front (cut.this ∷ []) cut.back) in
      let games_first : All IsSubmission front = All-append IsSubmission cut.front (cut.this ∷ []) cut.games (All-cons IsSubmission cut.this [] cut.lawful (All-nil IsSubmission)) in
      let own_first = HaveOwnIds-front front cut.back (subst HaveOwnIds whole own) in
      let long : length A ≡ length (front ++ cut.back) = ap length whole in
      let loads = loads_texts cap front games_first own_first (omega (arith, room, long, length-append front cut.back)) in
      let texts : texts_of front ≡ before ++ line ∷ [] =
      map-append submission_text cut.front (cut.this ∷ []) ∙ ap (λ ts. ts ++ submission_text cut.this ∷ []) (sym cut.before) ∙ ap (λ t. before ++ t ∷ []) (sym cut.here) in
      (front, subst (λ h. Loads cap (h ∷ before ++ line ∷ []) front) head (subst (λ ts. Loads cap (header ∷ ts) front) texts loads))

  no_break : (ledger ledger' : LedgerState) (ls later : List (List ℕ)) → ledger.cap ≡ cap → Breaks (from_to ledger ledger') ls → lines bytes ≡ ls ++ later → ⊥
  no_break ledger ledger' ls later fits h is =
      let last = h.0 in
      let loads = loads_first last.before later last.line
      (sym (lines_of_saved A bytes games saved) ∙ is ∙ ap (λ (xs : List (List ℕ)). xs ++ later) last.are ∙ append_assoc last.before (last.line ∷ []) later) in
      h.1 loads.0 (subst (λ c. Loads c ls loads.0) (sym fits) (subst (λ xs. Loads cap xs loads.0) (sym last.are) loads.1))

  module _ (fills : ℕ) (source source' : SourceState) (tells : Tells fills source source' bytes) (old new : LedgerState) (fits : old.cap ≡ cap) where
    pub only_memory : (e : LoadError) → LoadsUntil fills (from_to source source') (from_to old new) e → e ≡ Memory
    only_memory Memory h = refl
    only_memory Read h = absurd (no_fault chunk_len fills source source' bytes tells h.came h.reads)
    only_memory Endless h = absurd (no_endless chunk_len fills source source' bytes tells h.came h.reads)
    only_memory (Line n) (inl h) =
        let told = came_first chunk_len fills source source' bytes tells.told (h.came ++ h.reads.0) h.reads.1.reads in
        let begins = lines-begin h.came (h.reads.0 ++ told.0) in
        absurd (no_break old new (ended_lines h.came) begins.0 fits h.done.1 (ap lines (told.1 ∙ append_assoc h.came h.reads.0 told.0) ∙ begins.1))
    only_memory (Line n) (inr h) =
        let told = all_came chunk_len fills source source' bytes tells.told h.came h.reads in
        absurd (no_break old new (lines h.came) [] fits h.done.1 (ap lines told ∙ sym (append-nil (lines h.came))))

    pub loaded_whole : AtEnd fills source source' (Makes Loads (from_to old new)) → new.accepted ≡ A
    loaded_whole h =
        let told = all_came chunk_len fills source source' bytes tells.told h.came h.reads in
        loads_only new.accepted (subst (λ (xs : List (List ℕ)). Loads cap xs new.accepted) (ap lines (sym told)) (subst (λ c. Loads c (lines h.came) new.accepted) fits h.done))

-- ---- a run that goes on from a saved ledger

-- the replies to two runs in a row
replies-append : (cap : ℕ) (A B : List Submission) (K L : List (List ℕ)) (Q R : List Answer) → Run cap A K Q B → replies (K ++ L) (Q ++ R) ≡ replies K Q ++ replies L R
replies-append most A B [] L [] R run = refl
replies-append most A B [] L (q ∷ Q) R run = absurd run
replies-append most A B (line ∷ K) L [] R run = absurd run
replies-append most A B (line ∷ K) L (q ∷ Q) R run =
    ap (λ bs. reply_line line q ++ bs) (replies-append most run.0 B K L Q R run.2) ∙ sym (append_assoc (reply_line line q) (replies K Q) (replies L R))

-- the loaded list is the one that was saved
pub loaded_back : (cap : ℕ) (K : List (List ℕ)) (Q : List Answer) (A B : List Submission) (bytes : List ℕ) → Run cap [] K Q A → Saved A bytes → Loads cap (lines bytes) B → B ≡ A
loaded_back most K Q A B bytes run saved loads =
    loads_only most A bytes (are_submissions most K Q A run) (distinct_ids most K Q A run) (has_room most K Q A run) saved B loads

pub continued : (cap : ℕ) (K L : List (List ℕ)) (Q R : List Answer) (A B C : List Submission) (bytes : List ℕ) → Run cap [] K Q A → Saved A bytes → Loads cap (lines bytes) B → Run cap B L R C → Run cap [] (K ++ L) (Q ++ R) C × (replies (K ++ L) (Q ++ R) ≡ replies K Q ++ replies L R)
continued most K L Q R A B C bytes run saved loads more =
    let same = loaded_back most K Q A B bytes run saved loads in (
      runs_join most [] A C K L Q R run (subst (λ X. Run most X L R C) same more),
      replies-append most [] A K L Q R run,
    )
