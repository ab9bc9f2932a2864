-- A game that comes again.
use Rattle.std.proofs.Common.{◌≡◌, ℕ, List, ◌∷◌, [], get_or, sym, ap, ◌∙◌}
use Rattle.std.specs.List.{join_with_byte}
use Rattle.std.specs.Str.Lines.{strip_carriage_return}
use Rattle.std.proofs.lemmas.List.Splits.{join_with_byte-slice_split}
use Rattle.pb_games.specs.declared.fields.LineFields.{LineFields}
use Rattle.pb_games.specs.declared.game.Game.{Game}
use Rattle.pb_games.specs.Cuts.{IsCut}
use Rattle.pb_games.specs.Repeat.{AreFieldsOf}
use Rattle.pb_games.specs.Submissions.{Submits, IsSubmission, Submission, moves_text}
use Rattle.pb_games.specs.Tokens.{tokens_of}
use Rattle.pb_games.proofs.OneLine.{tokens_of_text}
use Rattle.pb_games.proofs.Texts.{fields_back}
use Rattle.pb_games.proofs.TokenLemmas.{tokens-back}

module _ (line : List ℕ) (f : LineFields) (h : IsCut line f) where
  -- a line with the fields of a legal game submits it
  pub again : (g : Game) → IsSubmission (f.id.now, g) → AreFieldsOf g f → Submits line (f.id.now, g)
  again g known are =
      let moves_are : f.moves.now ≡ moves_text g.moves = sym (tokens-back f.moves.now) ∙ ap (join_with_byte 32) are.tokens_are in
      record {
        text =
            sym (join_with_byte-slice_split 9 (strip_carriage_return line))
            ∙ ap (join_with_byte 9) (h.cut ∙ (λ i. f.id.now ∷ are.outcome_is i ∷ are.start_is i ∷ moves_are i ∷ []));
        id = known.id;
        start = known.game.start;
        playable = known.legal.playable;
        few = known.game.few;
        legal = known.legal.legal;
      }

  -- and the fields of a line that submits a game are its id and the game's
  pub fields_again : (s : Submission) → Submits line s → (f.id.now ≡ s.0) × AreFieldsOf s.1 f
  fields_again s lawful =
      let cells = sym h.cut ∙ fields_back line s lawful in
      let cell = λ (i : ℕ). ap (λ (w : List (List ℕ)). get_or w i []) cells in
      (cell 0, record { outcome_is = cell 1; start_is = cell 2; tokens_are = ap tokens_of (cell 3) ∙ tokens_of_text s.1.moves })
