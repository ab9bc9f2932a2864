-- What a move does, from the pieces that lead to the board after it.
use Rattle.std.proofs.Common.{◌≡◌, ℕ, sym, ap, subst, ◌∙◌, Option}
use Rattle.pb_board.specs.declared.piece.Piece.{Piece}
use Rattle.pb_board.specs.declared.setup.MovedPiece.{MovedPiece}
use Rattle.pb_board.specs.declared.setup.Rights.{Rights}
use Rattle.pb_board.specs.Board.{Board}
use Rattle.pb_board.specs.MovedPiece.{with_pieces_moved}
use Rattle.pb_board.specs.Piece.{opponent}
use Rattle.pb_board.specs.Position.{Position, IsSetup, position_of}
use Rattle.pb_moves.specs.declared.effect.Effect.{Effect}
use Rattle.pb_moves.specs.Candidate.{IsOwn}
use Rattle.pb_moves.specs.Effect.{IsEffect}
use Rattle.pb_moves.specs.Legal.{PseudoLegal}
use Rattle.pb_moves.specs.MovedPieces.{LeadsTo}
use Rattle.pb_moves.specs.Moved.{Moved}
use Rattle.pb_moves.specs.Successor.{en_passant_after, rights_after}
use Rattle.pb_moves.proofs.Kept.{after_is_setup}
use Rattle.pb_moves.proofs.Ways.{after_parts}

-- pieces that lead to the board after the move, with what stands beside it, are what the move does
pub is_effect : (s : Position) (m : Moved) (piece : Piece) (first : MovedPiece) (second : Option MovedPiece) (rights : Rights) (ep : Option ℕ) → IsSetup s → IsOwn s m.from piece
    → PseudoLegal s m × LeadsTo s m (first, second) → rights ≡ rights_after s.rights m → ep ≡ en_passant_after m piece
    → (let e : Effect = record { piece = piece; first = first; second = second; rights = rights; ep = ep } in IsEffect s m e)
is_effect s m piece first second rights ep ok own (moves, leads) rights_is ep_is =
    let new = with_pieces_moved s.board first second in
    let B : Board → Position = λ b. position_of b (opponent s.turn) (rights_after s.rights m) (en_passant_after m piece) in
    let R : Rights → Position = λ r. position_of new (opponent s.turn) r (en_passant_after m piece) in
    let E : Option ℕ → Position = λ o. position_of new (opponent s.turn) rights o in
    record {
      rules = ok;
      moves = moves;
      stands = own.stands;
      fits = leads.0;
      after = after_parts s m piece own.stands ∙ ap B leads.1 ∙ ap R (sym rights_is) ∙ ap E (sym ep_is);
    }

-- and back
pub effect_leads : (s : Position) (m : Moved) (e : Effect) → IsEffect s m e → PseudoLegal s m × LeadsTo s m (e.first, e.second)
effect_leads s m e is = (is.moves, (is.fits, ap (λ (t : Position). t.board) is.after))

pub effect_ep : (s : Position) (m : Moved) (e : Effect) → IsEffect s m e → e.ep ≡ en_passant_after m e.piece
effect_ep s m e is = sym (ap (λ (t : Position). t.ep) is.after) ∙ ap (λ (t : Position). t.ep) (after_parts s m e.piece is.stands)

-- the setup that is made of the parts meets the rules for setups
pub made_is_setup : (s : Position) (m : Moved) (e : Effect) → IsSetup s → IsEffect s m e → IsSetup (position_of (with_pieces_moved s.board e.first e.second) (opponent s.turn) e.rights e.ep)
made_is_setup s m e ok is = let P : Position → Type 0 = λ t. IsSetup t in subst P is.after (after_is_setup s m ok is.moves)
