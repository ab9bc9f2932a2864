-- The text of a submission: its bytes, its length, and the fields that a cut at every TAB gives
-- back.
use Rattle.std.proofs.Common.{◌≡◌, ◌≢◌, ◌⊎◌, ℕ, ◌<◌, ◌≤◌, eqb, List, [], ◌∷◌, ◌++◌, length, length-append, get_or, ap, ◌∙◌, inl, inr, arith, lit<}
use Rattle.std.specs.List.{All, join_with_byte, slice_split}
use Rattle.std.proofs.Math.Seq.{get_or-append_seam}
use Rattle.std.proofs.lemmas.List.Elements.{All-nil, All-cons, All-append}
use Rattle.pb_board.proofs.Joins.{Above, AllAbove, split_join}
use Rattle.std.specs.Str.Lines.{strip_carriage_return}
use Rattle.pb_board.specs.Text.{fen_text}
use Rattle.pb_games.specs.Cuts.{fields_of}
use Rattle.pb_moves.specs.Moved.{IsMove, Moved}
use Rattle.pb_moves.specs.Played.{AreLegal}
use Rattle.pb_moves.specs.Successor.{after}
use Rattle.pb_board.specs.Position.{Position}
use Rattle.pb_games.specs.Results.{outcome_text}
use Rattle.pb_games.specs.Submissions.{IsGame, Submits, IsSubmission, Submission, moves_text, submission_text}
use Rattle.pb_games.proofs.Bytes.{Above-weaker, id_above, result_above, result_short, fen_above, fen_short, moves_above, moves_short}
use Rattle.pb_games.specs.Ids.{IsId}
use Rattle.pb_board.proofs.LineEnds.{cases_return, strip_push, strip_same}
use Rattle.pb_board.specs.Fields.{fields, tab}

no_tab : (xs : List ℕ) → Above 31 xs → Above 9 xs
no_tab xs h = Above-weaker 9 31 xs (omega arith) h

pub four_fields : (s : Submission) → IsId s.0 → IsGame s.1 → fields tab (submission_text s) ≡ s.0 ∷ outcome_text s.1.outcome ∷ fen_text s.1.start ∷ moves_text s.1.moves ∷ []
four_fields s id game =
    split_join 9 (s.0 ∷ outcome_text s.1.outcome ∷ fen_text s.1.start ∷ moves_text s.1.moves ∷ []) (
      no_tab s.0 (id_above s.0 id),
      (
        no_tab (outcome_text s.1.outcome) (result_above s.1.outcome),
        (no_tab (fen_text s.1.start) (fen_above s.1.start game.start), (no_tab (moves_text s.1.moves) (moves_above s.1.moves), tt)),
      ),
    ) (lit< tt)

abbrev IsPlain : ℕ → Type 0
IsPlain b = (b ≢ 10) × (b ≢ 13)

plain_field : (xs : List ℕ) → Above 31 xs → All IsPlain xs
plain_field [] h = All-nil IsPlain
plain_field (x ∷ xs) h = All-cons IsPlain x xs (λ e. omega (arith, h.0, e), λ e. omega (arith, h.0, e)) (plain_field xs h.1)

plain_join : (cells : List (List ℕ)) → AllAbove 31 cells → All IsPlain (join_with_byte 9 cells)
plain_join [] h = All-nil IsPlain
plain_join (t ∷ []) h = plain_field t h.0
plain_join (t ∷ u ∷ ts) h =
    let rest = join_with_byte 9 (u ∷ ts) in
    All-append IsPlain t (9 ∷ rest) (plain_field t h.0) (All-cons IsPlain 9 rest (λ e. omega (arith, e), λ e. omega (arith, e)) (plain_join (u ∷ ts) h.1))

pub one_line : (s : Submission) → IsId s.0 → IsGame s.1 → All (λ b. (b ≢ 10) × (b ≢ 13)) (submission_text s)
one_line s id game =
    plain_join (s.0 ∷ outcome_text s.1.outcome ∷ fen_text s.1.start ∷ moves_text s.1.moves ∷ [])
    (id_above s.0 id, (result_above s.1.outcome, (fen_above s.1.start game.start, (moves_above s.1.moves, tt))))

four_short : (a b c d : List ℕ) → length a ≤ 64 → length b ≤ 7 → length c ≤ 94 → length d ≤ 6143 → length (join_with_byte 9 (a ∷ b ∷ c ∷ d ∷ [])) ≤ 6311
four_short a b c d ha hb hc hd =
    omega (arith, length-append a (9 ∷ (b ++ 9 ∷ (c ++ 9 ∷ d))), length-append b (9 ∷ (c ++ 9 ∷ d)), length-append c (9 ∷ d))

pub short_text : (s : Submission) → IsId s.0 → IsGame s.1 → length (submission_text s) ≤ 6311
short_text s id game =
    four_short s.0 (outcome_text s.1.outcome) (fen_text s.1.start) (moves_text s.1.moves) id.few (result_short s.1.outcome) (fen_short s.1.start game.start) (omega (arith, moves_short s.1.moves, game.few))

-- ---- lines

no_final_cr : (text : List ℕ) → All (λ b. (b ≢ 10) × (b ≢ 13)) text → (front : List ℕ) → text ≢ front ++ 13 ∷ []
no_final_cr text h front e =
    let within : length front < length text = omega (arith, ap length e, length-append front (13 ∷ [])) in
    (h (length front) 0 within).1 (ap (λ (t : List ℕ). get_or t (length front) 0) e ∙ get_or-append_seam front 13 [] 0)

-- moves that are legal one after another are moves
legal_moves : (s : Position) (ms : List Moved) → AreLegal s ms → All IsMove ms
legal_moves s [] h = All-nil IsMove
legal_moves s (m ∷ ms) h = All-cons IsMove m ms h.0.moves.is_move (legal_moves (after s m) ms h.1)

pub lawful_game : (line : List ℕ) (s : Submission) → Submits line s → IsGame s.1
lawful_game line s h = record { start = h.start; moves = legal_moves s.1.start.setup s.1.moves h.legal; few = h.few }

pub lawful_submission : (line : List ℕ) (s : Submission) → Submits line s → IsSubmission s
lawful_submission line s h = record { id = h.id; game = lawful_game line s h; legal = record { playable = h.playable; legal = h.legal } }

-- a line that is the text of a submission, or that text and a CR, submits it
pub submits : (line : List ℕ) (s : Submission) → IsSubmission s → (line ≡ submission_text s) ⊎ (line ≡ submission_text s ++ 13 ∷ []) → Submits line s
submits line s h is = record {
  text = elim is [
    | inl same ↦ ap strip_carriage_return same ∙ strip_same (submission_text s) (no_final_cr (submission_text s) (one_line s h.id h.game))
    | inr more ↦ ap strip_carriage_return more ∙ strip_push (submission_text s)
  ];
  id = h.id;
  start = h.game.start;
  playable = h.legal.playable;
  few = h.game.few;
  legal = h.legal.legal;
}

-- the fields of a line are the fields of what it submits
pub fields_back : (line : List ℕ) (s : Submission) (h : Submits line s) → fields_of line ≡ s.0 ∷ outcome_text s.1.outcome ∷ fen_text s.1.start ∷ moves_text s.1.moves ∷ []
fields_back line s h =
    let Cut : List ℕ → List (List ℕ) = λ t. slice_split (λ b. eqb b 9) t in
    ap Cut h.text ∙ four_fields s h.id (lawful_game line s h)

pub short_line : (line : List ℕ) (s : Submission) → Submits line s → length line ≤ 6312
short_line line s h =
    let short = short_text s h.id (lawful_game line s h) in
    elim (cases_return line) [
      | inl same ↦ omega (arith, short, ap length same, ap length h.text)
      | inr more ↦ omega (arith, short, ap length more, ap length h.text, length-append (strip_carriage_return line) (13 ∷ []))
    ]
