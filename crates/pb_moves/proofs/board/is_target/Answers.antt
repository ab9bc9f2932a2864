use Rattle.std.proofs.Common.{◌≡◌, ◌≢◌, ◌⊎◌, ◌↔◌, refl, sym, ap, subst, ◌∙◌, inl, inr, Some, None}
use Rattle.std.proofs.lemmas.Option.{same_Some}
use Rattle.pb_board.specs.declared.piece.Colour.{Colour}
use Rattle.pb_board.specs.declared.piece.Colour.TheVariants.{White, Black}
use Rattle.pb_board.specs.declared.piece.Kind.{Kind}
use Rattle.pb_board.specs.declared.piece.Kind.TheVariants.{King}
use Rattle.pb_board.specs.declared.piece.Piece.{Piece}
use Rattle.pb_board.specs.Board.{Place, Holds, at}
use Rattle.pb_board.specs.Piece.{king_of, opponent, piece_of}
use Rattle.pb_moves.specs.Attackers.{In}
use Rattle.pb_moves.proofs.Changing.{own_differs}
use Rattle.pb_moves.proofs.Lines.{untold}
use Rattle.pb_moves.proofs.Sets.{in_first, in_or, in_second}
use Rattle.pb_moves.proofs.board.is_target.Goals as goal

other_side : (side colour : Colour) → colour ≢ side → colour ≡ opponent side
other_side White White other = absurd (other refl)
other_side White Black other = refl
other_side Black White other = refl
other_side Black Black other = absurd (other refl)

-- where neither a piece of the side nor the enemy's king stands, another piece of the enemy's does
enemy_there : (place : Place) (side : Colour) → ¬ ((kind : Kind) × (place ≡ Some (piece_of side kind))) → ¬ (place ≡ Some (king_of (opponent side)))
    → (place ≡ None) ⊎ ((kind : Kind) × (kind ≢ King) × (place ≡ Some (piece_of (opponent side) kind)))
enemy_there None side own king = inl refl
enemy_there (Some p) side own king =
    let of : Colour → Place = λ colour. Some (piece_of colour p.kind) in
    let stands : Some p ≡ Some (piece_of (opponent side) p.kind) = ap of (other_side side p.colour (λ e. own (p.kind, ap of e))) in
    inr (p.kind, λ e. king (stands ∙ ap (λ (kind : Kind). Some (piece_of (opponent side) kind)) e), stands)

none_held : (place : Place) (p : Piece) → place ≡ None → place ≡ Some p → ⊥
none_held place p empty stands = cc

pub returns-clause-value : goal.returns-clause-value
returns-clause-value c =
    let b = c.args.setup.now.board in
    let q = c.args.square in
    let side = c.args.setup.now.turn in
    let out = untold c.has.result _ c.has.ensures.inside in
    let turn : c.turn-side.result ≡ side = c.turn-side.ensures.value in
    let king = subst (λ (enemy : Colour). In c.by_piece-king.result q ↔ Holds b q (king_of enemy)) (c.opponent-colour.ensures ∙ ap opponent turn) (c.by_piece-king.ensures q) in
    let own = subst (λ (x : Colour). In c.by_colour.result q ↔ ((kind : Kind) × Holds b q (piece_of x kind))) turn (c.by_colour.ensures.squares q) in (
      λ h.
          let none = out.0 h in
          elim (enemy_there (at b q) side (λ held. none (in_first _ _ q (own.1 held))) (λ stands. none (in_second _ _ q (king.1 stands)))) [
            | inl empty ↦ inl empty
            | inr prey ↦ inr prey
          ],
      λ target. out.1 (λ inside.
          elim (in_or _ _ q inside) [
            | inl mine ↦
                (let held = own.0 mine in
                elim target [
                  | inl empty ↦ absurd (none_held (at b q) _ empty held.1)
                  | inr prey ↦ own_differs side (opponent side) side refl refl (ap (λ (p : Piece). p.colour) (same_Some _ _ (sym held.1 ∙ prey.2)))
                ])
            | inr stands ↦ elim target [
              | inl empty ↦ absurd (none_held (at b q) _ empty (king.0 stands))
              | inr prey ↦ prey.1 (ap (λ (p : Piece). p.kind) (same_Some _ _ (sym prey.2 ∙ king.0 stands)))
            ]
          ]),
    )
