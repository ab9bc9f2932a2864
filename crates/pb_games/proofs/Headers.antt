-- Which refusal a line gets before its moves are looked at.
use Rattle.std.proofs.Common.{◌≡◌, ◌≢◌, ◌≤◌, ℕ, List, [], ◌∷◌, length, slice_index_or, sym, ap, subst, ◌∙◌, arith}
use Rattle.pb_board.specs.declared.refusal.FenError.{FenError}
use Rattle.pb_board.specs.Fields.{field, fields}
use Rattle.pb_board.specs.Refusal.{fen_errors}
use Rattle.pb_board.proofs.Dues.{IsFirstDue}
use Rattle.pb_games.specs.declared.game.Outcome.{Outcome}
use Rattle.pb_games.specs.declared.refusal.Refusal.TheVariants as refusal
use Rattle.pb_games.specs.Ids.{IsId}
use Rattle.pb_games.specs.declared.fields.TheConstants.{MAX_BYTES}
use Rattle.pb_games.specs.Cuts.{fields_of}
use Rattle.pb_games.specs.Refusing.{Refuses}
use Rattle.pb_games.specs.Results.{outcome_text}
use Rattle.pb_games.proofs.Dues.{NoneBefore, none_at_first, none_more, first_due}

module _ (line : List ℕ) (short : length line ≤ MAX_BYTES) where
  none_before_shape : NoneBefore 2 line
  none_before_shape = none_more 1 line (none_at_first line) (λ due. omega (arith, short, due))

  pub shape_refused : length (fields_of line) ≢ 4 → Refuses line refusal.Shape
  shape_refused bad = first_due refusal.Shape line none_before_shape bad

  module _ (a b c d : List ℕ) (cut : fields_of line ≡ a ∷ b ∷ c ∷ d ∷ []) where
    id_at : field (fields_of line) 0 ≡ a
    id_at = ap (λ (w : List (List ℕ)). slice_index_or w 0 []) cut

    result_at : field (fields_of line) 1 ≡ b
    result_at = ap (λ (w : List (List ℕ)). slice_index_or w 1 []) cut

    fen_at : field (fields_of line) 2 ≡ c
    fen_at = ap (λ (w : List (List ℕ)). slice_index_or w 2 []) cut

    none_before_id : NoneBefore 3 line
    none_before_id = none_more 2 line none_before_shape (λ due. due (ap length cut))

    pub id_refused : ¬ IsId a → Refuses line refusal.Id
    id_refused bad = first_due refusal.Id line none_before_id (λ is. bad (subst IsId id_at is))

    module _ (id : IsId a) where
      none_before_result : NoneBefore 4 line
      none_before_result = none_more 3 line none_before_id (λ due. due (subst IsId (sym id_at) id))

      pub result_refused : ((o : Outcome) → b ≢ outcome_text o) → Refuses line refusal.Result
      result_refused bad = first_due refusal.Result line none_before_result (λ o is. bad o (sym result_at ∙ is))

      module _ (o : Outcome) (is : b ≡ outcome_text o) where
        pub none_before_fen : NoneBefore 5 line
        none_before_fen = none_more 4 line none_before_result (λ due. due o (result_at ∙ is))

        pub fen_refused : (e : FenError) → IsFirstDue fen_errors e (fields 32 c) → Refuses line (refusal.Fen e)
        fen_refused e bad = first_due (refusal.Fen e) line none_before_fen (subst (λ t. IsFirstDue fen_errors e (fields 32 t)) (sym fen_at) bad)
