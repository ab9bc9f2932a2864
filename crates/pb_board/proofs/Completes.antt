-- Where no error of a FEN record is due, the text is that of a record.
use Rattle.std.proofs.Common.{◌≡◌, ◌≢◌, ℕ, List, [], ◌∷◌, ◌++◌, length, refl, sym, ap, subst, ◌∙◌, inl, inr, arith}
use Rattle.std.specs.Prelude.{decimal}
use Rattle.std.specs.List.{join_with_byte}
use Rattle.std.proofs.lemmas.Bool.{cases_eq}
use Rattle.std.proofs.lemmas.List.Splits.{join_with_byte-slice_split}
use Rattle.pb_board.specs.declared.refusal.FenError.{FenError}
use Rattle.pb_board.specs.declared.refusal.FenError.TheVariants as fen
use Rattle.pb_board.specs.Board.{Board}
use Rattle.pb_board.specs.Fields.{field, fields}
use Rattle.pb_board.specs.Position.{HasKings, HasNoEdgePawn, IsRecord, Record, position_of, record_of}
use Rattle.pb_board.specs.Refusal.{IsDueFen, IsFirstOf, SpellsBoard, fen_errors}
use Rattle.pb_board.specs.Text.{castling_text, en_passant_text, fen_text, placement_text, setup_fields, turn_text}
use Rattle.pb_board.proofs.Dues.{first_here, first_later}
use Rattle.pb_board.proofs.Unique.{placement_injective}

six_are : (xs : List (List ℕ)) → length xs ≡ 6 → xs ≡ field xs 0 ∷ field xs 1 ∷ field xs 2 ∷ field xs 3 ∷ field xs 4 ∷ field xs 5 ∷ []
six_are [] six = absurd (omega (arith, six))
six_are (_ ∷ []) six = absurd (omega (arith, six))
six_are (_ ∷ _ ∷ []) six = absurd (omega (arith, six))
six_are (_ ∷ _ ∷ _ ∷ []) six = absurd (omega (arith, six))
six_are (_ ∷ _ ∷ _ ∷ _ ∷ []) six = absurd (omega (arith, six))
six_are (_ ∷ _ ∷ _ ∷ _ ∷ _ ∷ []) six = absurd (omega (arith, six))
six_are (_ ∷ _ ∷ _ ∷ _ ∷ _ ∷ _ ∷ []) six = refl
six_are (_ ∷ _ ∷ _ ∷ _ ∷ _ ∷ _ ∷ _ ∷ _) six = absurd (omega (arith, six))

module _ (text : List ℕ) where
  abbrev texts : List (List ℕ)
  texts = fields 32 text

  -- none of these errors is the first that is due
  abbrev NoneOf : List FenError → Type 0
  NoneOf errors = (e : FenError) → ¬ IsFirstOf errors (IsDueFen texts) e

  not_due : (d : FenError) (errors : List FenError) → NoneOf (d ∷ errors) → ¬ IsDueFen texts d
  not_due d errors none due = none d (first_here (IsDueFen texts) d errors due)

  later : (d : FenError) (errors : List FenError) → NoneOf (d ∷ errors) → NoneOf errors
  later d errors none e first = none e (first_later (IsDueFen texts) d e errors (not_due d errors none) first)

  -- so the text is that of the record of the texts
  is_text : (f : Record) → length texts ≡ 6 → field texts 0 ≡ placement_text f.setup.board → field texts 1 ≡ turn_text f.setup.turn → field texts 2 ≡ castling_text f.setup.rights
      → field texts 3 ≡ en_passant_text f.setup.ep → field texts 4 ≡ decimal f.half → field texts 5 ≡ decimal f.full → text ≡ fen_text f
  is_text f six a b c d e g =
      let six_texts : List (List ℕ) = field texts 0 ∷ field texts 1 ∷ field texts 2 ∷ field texts 3 ∷ field texts 4 ∷ field texts 5 ∷ [] in
      let same : six_texts ≡ setup_fields f.setup ++ decimal f.half ∷ decimal f.full ∷ [] = rw (a, b, c, d, e, g) refl in
      sym (join_with_byte-slice_split 32 text) ∙ ap (join_with_byte 32) (six_are texts six ∙ same)

  -- boards that the first text spells are one
  one_board : (P : Board → Type 0) (other board : Board) → SpellsBoard texts other → SpellsBoard texts board → P other → P board
  one_board P other board o b = subst P (placement_injective other board o.0 b.0 (sym o.1 ∙ b.1))

  pub complete : NoneOf fen_errors → ((f : Record) → IsRecord f → text ≢ fen_text f) → ⊥
  complete n0 never =
      let n1 = later fen.Fields _ n0 in
      let n2 = later fen.Placement _ n1 in
      let n3 = later fen.Turn _ n2 in
      let n4 = later fen.Castling _ n3 in
      let n5 = later fen.EnPassantText _ n4 in
      let n6 = later fen.Half _ n5 in
      let n7 = later fen.Full _ n6 in
      let n8 = later fen.Kings _ n7 in
      let n9 = later fen.Pawns _ n8 in
      elim (cases_eq (length texts) 6) [
        | inr differs ↦ not_due fen.Fields _ n0 differs
        | inl six ↦
            not_due fen.Castling _ n3 (λ rights c.
            not_due fen.Half _ n5 (λ half half_fits h.
            not_due fen.Full _ n6 (λ full low full_fits g.
            not_due fen.Kings _ n7 (λ other k has.
            not_due fen.Pawns _ n8 (λ another p inner.
            not_due fen.EnPassantPawn _ n9 (λ board turn ep b square holds.
            let f = record_of (position_of board turn rights ep) half full in
            never f
            (record {
              setup = record {
                places = b.0;
                kings = one_board HasKings other board k b has;
                pawns = one_board HasNoEdgePawn another board p b inner;
                en_passant = holds;
              };
              half = half_fits;
              low = low;
              full = full_fits;
            })
            (is_text f six b.1 square.0 c square.1 h g)))))))
      ]
