-- What was read of the fields of a line, and what follows for the whole.
use Rattle.std.proofs.Common.{◌≡◌, ℕ, ◌<◌, ◌≤◌, List, [], ◌∷◌, length, slice_index_or, refl, sym, ap, subst, ◌∙◌, arith}
use Rattle.std.specs.List.{All, join_with_byte}
use Rattle.std.proofs.lemmas.List.{length-map}
use Rattle.std.proofs.lemmas.List.Splits.{join_with_byte-slice_split}
use Rattle.pb_board.specs.Fields.{field, fields}
use Rattle.pb_board.specs.Text.{fen_text}
use Rattle.pb_board.specs.Position.{IsRecord, Record}
use Rattle.pb_board.specs.Refusal.{BreaksAt, fen_errors}
use Rattle.pb_board.proofs.Breaks.{all_unbroken}
use Rattle.pb_board.proofs.Dues.{IsFirstDue}
use Rattle.pb_board.proofs.Fens.{record_never_due}
use Rattle.pb_board.proofs.Unique.{one_record}
use Rattle.std.specs.Str.Lines.{strip_carriage_return}
use Rattle.pb_moves.specs.Attacks.{IsPlayable}
use Rattle.pb_moves.specs.Played.{AreLegal, IsSpelled}
use Rattle.pb_games.specs.declared.fields.LineFields.{LineFields}
use Rattle.pb_games.specs.declared.game.Outcome.{Outcome}
use Rattle.pb_games.specs.declared.refusal.Refusal.{Refusal}
use Rattle.pb_games.specs.declared.refusal.Refusal.TheVariants as refusal
use Rattle.pb_games.specs.Cuts.{IsCut, fields_of}
use Rattle.pb_games.specs.Lines.{submission_of, IsChecked}
use Rattle.pb_games.specs.Reading.{AreRead, AreRefused}
use Rattle.pb_games.specs.Refusing.{Refuses}
use Rattle.pb_games.specs.Refusing.{SpellsStart}
use Rattle.pb_games.specs.Results.{outcome_text}
use Rattle.pb_games.specs.Submissions.{Submits, IsGame, moves_text, submission_text}
use Rattle.pb_games.specs.Tokens.{tokens_of, move_spelt, moves_spelt}
use Rattle.pb_games.proofs.Dues.{NoneBefore, none_more, first_due}
use Rattle.pb_games.proofs.Headers.{none_before_fen}
use Rattle.pb_games.proofs.Texts.{lawful_submission}
use Rattle.pb_games.proofs.TokenLemmas.{spellings_back, spelt_are_moves, tokens-back}

module _ (line : List ℕ) (F : LineFields) (h : IsCut line F) (o : Outcome) (result_is : F.outcome.now ≡ outcome_text o) (f : Record) (start : IsRecord f × (F.start.now ≡ fen_text f)) where
  fen_at : field (fields_of line) 2 ≡ fen_text f
  fen_at = ap (λ (w : List (List ℕ)). slice_index_or w 2 []) h.cut ∙ start.1

  moves_at : field (fields_of line) 3 ≡ F.moves.now
  moves_at = ap (λ (w : List (List ℕ)). slice_index_or w 3 []) h.cut

  none_before_start : NoneBefore 6 line
  none_before_start =
      none_more 5 line (none_before_fen line h.short F.id.now F.outcome.now F.start.now F.moves.now h.cut h.id_is o result_is)
      (λ due. record_never_due f (fen_text f) due.0 start.0 refl (subst (λ t. IsFirstDue fen_errors due.0 (fields 32 t)) fen_at due.1))

  spells_start : SpellsStart (fields_of line) f
  spells_start = (start.0, fen_at)

  pub start_refused : ¬ IsPlayable f.setup → Refuses line refusal.Start
  start_refused bad = first_due refusal.Start line none_before_start (f, spells_start, bad)

  module _ (playable : IsPlayable f.setup) where
    none_before_tokens : NoneBefore 7 line
    none_before_tokens =
        none_more 6 line none_before_start (λ due.
        let same : due.0 ≡ f = one_record due.0 f (field (fields_of line) 2) due.1.0 start.0 due.1.1 fen_at in
        due.2 (subst (λ g. IsPlayable g.setup) (sym same) playable))

    misspelt_refused : (n : ℕ) → BreaksAt (All IsSpelled) (tokens_of F.moves.now) n → Refuses line (refusal.Spelling n)
    misspelt_refused n bad = first_due (refusal.Spelling n) line none_before_tokens (subst (λ w. BreaksAt (All IsSpelled) (tokens_of w) n) (sym moves_at) bad)

    module _ (spelt : All IsSpelled (tokens_of F.moves.now)) where
      none_before_plies : NoneBefore 8 line
      none_before_plies = none_more 7 line none_before_tokens (λ due. all_unbroken IsSpelled (tokens_of F.moves.now) due.0 spelt (subst (λ w. BreaksAt (All IsSpelled) (tokens_of w) due.0) moves_at due.1))

      many_refused : 1024 < length (tokens_of F.moves.now) → Refuses line refusal.Plies
      many_refused many = first_due refusal.Plies line none_before_plies (subst (λ w. 1024 < length (tokens_of w)) (sym moves_at) many)

      module _ (few : length (tokens_of F.moves.now) ≤ 1024) where
        none_before_illegal : NoneBefore 9 line
        none_before_illegal =
            none_more 8 line none_before_plies (λ due.
            let many : 1024 < length (tokens_of F.moves.now) = subst (λ w. 1024 < length (tokens_of w)) moves_at due in
            omega (arith, few, many))

        illegal_refused : (n : ℕ) → BreaksAt (AreLegal f.setup) (moves_spelt F.moves.now) n → Refuses line (refusal.Illegal n)
        illegal_refused n bad =
            first_due (refusal.Illegal n) line none_before_illegal (
              f,
              moves_spelt F.moves.now,
              spells_start,
              (spelt_are_moves (tokens_of F.moves.now) spelt, spellings_back (tokens_of F.moves.now) spelt ∙ ap tokens_of (sym moves_at)),
              bad,
            )

        is_game : IsGame (submission_of F.id.now f o F.moves.now).1
        is_game = record { start = start.0; moves = spelt_are_moves (tokens_of F.moves.now) spelt; few = omega (arith, few, length-map (tokens_of F.moves.now) move_spelt) }

        moves_back : F.moves.now ≡ moves_text (moves_spelt F.moves.now)
        moves_back = sym (ap (join_with_byte 32) (spellings_back (tokens_of F.moves.now) spelt) ∙ tokens-back F.moves.now)

        text_is : strip_carriage_return line ≡ submission_text (submission_of F.id.now f o F.moves.now)
        text_is =
            sym (join_with_byte-slice_split 9 (strip_carriage_return line))
            ∙ ap (join_with_byte 9) (h.cut ∙ (λ i. F.id.now ∷ result_is i ∷ start.1 i ∷ moves_back i ∷ []))

        lawful : AreLegal f.setup (moves_spelt F.moves.now) → Submits line (submission_of F.id.now f o F.moves.now)
        lawful legal = record {
          text = text_is;
          id = h.id_is;
          start = start.0;
          playable = playable;
          few = is_game.few;
          legal = legal;
        }

    -- the refusal that the tokens get is the line's
    pub moves_refused : (e : Refusal) → AreRefused f.setup F.moves.now e → Refuses line e
    moves_refused refusal.Long bad = absurd bad
    moves_refused refusal.Shape bad = absurd bad
    moves_refused refusal.Id bad = absurd bad
    moves_refused refusal.Result bad = absurd bad
    moves_refused (refusal.Fen e) bad = absurd bad
    moves_refused refusal.Start bad = absurd bad
    moves_refused (refusal.Spelling n) bad = misspelt_refused n bad
    moves_refused refusal.Plies bad = many_refused bad.0 bad.1
    moves_refused (refusal.Illegal n) bad = illegal_refused bad.spelt bad.few n bad.first
    moves_refused (refusal.Conflict n) bad = absurd bad
    moves_refused refusal.Full bad = absurd bad
    moves_refused refusal.Memory bad = absurd bad

    -- the moves that were read make a lawful submission
    pub moves_lawful : (n : ℕ) → AreRead f.setup F.moves.now n → Submits line (submission_of F.id.now f o F.moves.now)
    moves_lawful n read = lawful read.spelt (omega (arith, read.number, read.few)) read.legal

    pub moves_checked : (n : ℕ) → AreRead f.setup F.moves.now n → IsChecked (submission_of F.id.now f o F.moves.now) F.moves.now n
    moves_checked n read = record { rules = lawful_submission line (submission_of F.id.now f o F.moves.now) (moves_lawful n read); spelt = read.spelt; number = read.number }
