-- What follows where a line is refused.
use Rattle.std.proofs.Common.{◌≡◌, ℕ, List, [], ◌∷◌, Result, Ok, Err, length, map, slice_index_or, refl, sym, ap, subst, ◌∙◌, arith}
use Rattle.std.specs.List.{All}
use Rattle.std.specs.Prelude.{IfOk, IfErr}
use Rattle.std.proofs.lemmas.List.{length-map}
use Rattle.std.proofs.lemmas.List.Elements.{All-map, All-weaker}
use Rattle.pb_board.specs.Fields.{field, fields}
use Rattle.pb_board.specs.Text.{fen_text}
use Rattle.pb_board.specs.Position.{Record}
use Rattle.pb_board.specs.Refusal.{BreaksAt, fen_errors}
use Rattle.pb_board.proofs.Breaks.{all_unbroken, unbroken}
use Rattle.pb_board.proofs.Dues.{IsFirstDue}
use Rattle.pb_board.proofs.Fens.{record_never_due}
use Rattle.pb_board.proofs.Unique.{one_record}
use Rattle.pb_moves.specs.Attacks.{IsPlayable}
use Rattle.pb_moves.specs.Moved.{Moved, IsMove}
use Rattle.pb_moves.specs.Played.{AreLegal, IsSpelled}
use Rattle.pb_moves.specs.Spelling.{spelling}
use Rattle.pb_games.specs.declared.refusal.Refusal.{Refusal}
use Rattle.pb_games.specs.declared.refusal.Refusal.TheVariants as refusal
use Rattle.pb_games.specs.Ids.{IsId}
use Rattle.pb_games.specs.Cuts.{fields_of}
use Rattle.pb_games.specs.Refusing.{Refuses, SpellsStart}
use Rattle.pb_games.specs.Results.{outcome_text}
use Rattle.pb_games.specs.Submissions.{Submission, Submits, moves_text}
use Rattle.pb_games.specs.Tokens.{tokens_of}
use Rattle.pb_games.proofs.Dues.{IsDue}
use Rattle.pb_games.proofs.OneLine.{one_lawful, tokens_of_text, spellings_injective}
use Rattle.pb_games.proofs.Texts.{fields_back, lawful_game, short_line}
use Rattle.pb_games.proofs.Played.{legal_fronts}

-- ---- no legal game

spelt_from_moves : (ms : List Moved) → All IsMove ms → All IsSpelled (map spelling ms)
spelt_from_moves ms h = All-map IsSpelled spelling ms (All-weaker IsMove (λ m. IsSpelled (spelling m)) (λ m is. (m, record { is_move = is; is = refl })) ms h)

module _ (line : List ℕ) (s : Submission) (h : Submits line s) where
  pub field_is : (i : ℕ) → field (fields_of line) i ≡ slice_index_or (s.0 ∷ outcome_text s.1.outcome ∷ fen_text s.1.start ∷ moves_text s.1.moves ∷ []) i []
  field_is i = ap (λ (w : List (List ℕ)). slice_index_or w i []) (fields_back line s h)

  tokens_are : tokens_of (field (fields_of line) 3) ≡ map spelling s.1.moves
  tokens_are = ap tokens_of (field_is 3) ∙ tokens_of_text s.1.moves

  start_is : (f : Record) → SpellsStart (fields_of line) f → f ≡ s.1.start
  start_is f k = one_record f s.1.start (fen_text s.1.start) k.0 h.start (sym (field_is 2) ∙ k.1) refl

  pub none_due : (e : Refusal) → ¬ IsDue e line
  none_due refusal.Long due = omega (arith, due, short_line line s h)
  none_due refusal.Shape due = due (ap length (fields_back line s h))
  none_due refusal.Id due = due (subst IsId (sym (field_is 0)) h.id)
  none_due refusal.Result due = due s.1.outcome (field_is 1)
  none_due (refusal.Fen e) due =
      record_never_due s.1.start (fen_text s.1.start) e h.start refl (subst (λ t. IsFirstDue fen_errors e (fields 32 t)) (field_is 2) due)
  none_due refusal.Start due = due.2 (subst (λ (f : Record). IsPlayable f.setup) (sym (start_is due.0 due.1)) h.playable)
  none_due (refusal.Spelling n) due =
      all_unbroken IsSpelled (map spelling s.1.moves) n (spelt_from_moves s.1.moves (lawful_game line s h).moves) (subst (λ ws. BreaksAt (All IsSpelled) ws n) tokens_are due)
  none_due refusal.Plies due = omega (arith, due, ap length tokens_are, length-map s.1.moves spelling, h.few)
  none_due (refusal.Illegal n) due =
      let moves = spellings_injective due.1 s.1.moves due.3.0 (lawful_game line s h).moves (due.3.1 ∙ tokens_are) in
      let start : due.0.setup ≡ s.1.start.setup = ap (λ (f : Record). f.setup) (start_is due.0 due.2) in
      unbroken (AreLegal s.1.start.setup) (legal_fronts s.1.start.setup) s.1.moves n h.legal
      (subst (λ ms. BreaksAt (AreLegal s.1.start.setup) ms n) moves (subst (λ t. BreaksAt (AreLegal t) due.1 n) start due.4))
  none_due _ due = due

pub unlawful : (line : List ℕ) (e : Refusal) (s : Submission) → Refuses line e → ¬ Submits line s
unlawful line e s h lawful = none_due line s lawful e h.due

-- where an answer is right, it is that of the game that the line submits
pub only_one : (line : List ℕ) (r : Result Submission Refusal) → IfOk r (λ s. Submits line s) → IfErr r (λ e. Refuses line e) → (s : Submission) → Submits line s → r ≡ Ok s
only_one line (Ok t) found refused s lawful = ap (λ x. Ok x) (one_lawful line t s found lawful)
only_one line (Err e) found refused s lawful = absurd (unlawful line e s refused lawful)
