-- The first refusal of parts and of texts, from what was found of each.
use Rattle.std.proofs.Common.{◌≡◌, ◌≢◌, ℕ, List, [], ◌∷◌, length, take, Option, sym, subst, ◌∙◌}
use Rattle.std.specs.Prelude.{IfSome}
use Rattle.pb_board.specs.declared.piece.Colour.{Colour}
use Rattle.pb_board.specs.declared.setup.Rights.{Rights}
use Rattle.pb_board.specs.declared.refusal.SetupError.TheVariants as fault
use Rattle.pb_board.specs.declared.refusal.FenError.TheVariants as refusal
use Rattle.pb_board.specs.Board.{Board}
use Rattle.pb_board.specs.Position.{Position, HasKings, HasNoEdgePawn, EnPassantHolds, OnEnPassantRank}
use Rattle.pb_board.specs.Text.{placement_text, turn_text, castling_text, en_passant_text}
use Rattle.pb_board.specs.Refusal.{IsDueFen, IsFault, IsFirstFault, of_setup}
use Rattle.pb_board.proofs.Dues.{IsFirstDue, first_here, first_later}
use Rattle.pb_board.proofs.Unique.{turn_injective}

-- ---- parts

module _ (p : Position) where
  pub kings_first : ¬ HasKings p.board → IsFirstFault fault.Kings p
  kings_first bad = first_here (λ x. IsFault x p) fault.Kings (fault.Pawns ∷ fault.EnPassant ∷ []) bad

  pub pawns_first : HasKings p.board → ¬ HasNoEdgePawn p.board → IsFirstFault fault.Pawns p
  pawns_first kings bad =
      first_later (λ x. IsFault x p) fault.Kings fault.Pawns (fault.Pawns ∷ fault.EnPassant ∷ []) (λ due. due kings)
      (first_here (λ x. IsFault x p) fault.Pawns (fault.EnPassant ∷ []) bad)

  pub en_passant_first : HasKings p.board → HasNoEdgePawn p.board → ¬ EnPassantHolds p.board p.turn p.ep → IsFirstFault fault.EnPassant p
  en_passant_first kings pawns bad =
      first_later (λ x. IsFault x p) fault.Kings fault.EnPassant (fault.Pawns ∷ fault.EnPassant ∷ []) (λ due. due kings)
      (first_later (λ x. IsFault x p) fault.Pawns fault.EnPassant (fault.EnPassant ∷ []) (λ due. due pawns) (first_here (λ x. IsFault x p) fault.EnPassant [] bad))

-- ---- texts

module _ (a b c d : List ℕ) where
  abbrev four : List (List ℕ)
  four = a ∷ b ∷ c ∷ d ∷ []

  pub placement_first : ((x : Board) → length x ≡ 64 → a ≢ placement_text x) → IsFirstDue (take 4 of_setup) refusal.Placement four
  placement_first bad = first_here (IsDueFen four) refusal.Placement _ (λ x s. bad x s.0 s.1)

  module _ (board : Board) (placement : (length board ≡ 64) × (a ≡ placement_text board)) where
    is_placement : IsDueFen four refusal.Placement → ⊥
    is_placement due = due board placement

    pub turn_first : ((turn : Colour) → b ≡ turn_text turn → ⊥) → IsFirstDue (take 4 of_setup) refusal.Turn four
    turn_first bad = first_later (IsDueFen four) refusal.Placement _ _ is_placement (first_here (IsDueFen four) refusal.Turn _ bad)

    module _ (turn : Colour) (second : b ≡ turn_text turn) where
      pub castling_first : ((rights : Rights) → c ≡ castling_text rights → ⊥) → IsFirstDue (take 4 of_setup) refusal.Castling four
      castling_first bad =
          first_later (IsDueFen four) refusal.Placement _ _ is_placement
          (first_later (IsDueFen four) refusal.Turn _ _ (λ due. due turn second) (first_here (IsDueFen four) refusal.Castling _ bad))

      pub en_passant_text_first : (rights : Rights) → c ≡ castling_text rights → ((ep : Option ℕ) → d ≡ en_passant_text ep → IfSome ep (OnEnPassantRank turn) → ⊥) → IsFirstDue (take 4 of_setup) refusal.EnPassantText four
      en_passant_text_first rights third bad =
          first_later (IsDueFen four) refusal.Placement _ _ is_placement
          (first_later (IsDueFen four) refusal.Turn _ _ (λ due. due turn second)
          (first_later (IsDueFen four) refusal.Castling _ _ (λ due. due rights third)
          (first_here (IsDueFen four) refusal.EnPassantText _ (λ t ep s.
          let same : t ≡ turn = turn_injective t turn (sym s.0 ∙ second) in
          bad ep s.1 (subst (λ w. IfSome ep (OnEnPassantRank w)) same s.2)))))
