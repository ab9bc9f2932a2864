-- A piece whose king wouldn't be attacked without it can go anywhere.
use Rattle.std.proofs.Common.{◌≡◌, ◌≢◌, ℕ, arith, refl, inl, inr, Some, None, [], ◌∷◌, sym, ap, subst, ◌∙◌}
use Rattle.pb_board.specs.declared.piece.Colour.{Colour}
use Rattle.pb_board.specs.declared.piece.Colour.TheVariants.{White, Black}
use Rattle.pb_board.specs.declared.piece.Kind.{Kind}
use Rattle.pb_board.specs.declared.piece.Kind.TheVariants.{King}
use Rattle.pb_board.specs.declared.piece.Piece.{Piece}
use Rattle.pb_board.specs.declared.setup.MovedPiece.{MovedPiece}
use Rattle.pb_board.specs.MovedPiece.{with_moved}
use Rattle.pb_board.specs.Piece.{opponent, piece_of}
use Rattle.pb_board.specs.Board.{Board, IsEmpty}
use Rattle.pb_board.specs.Position.{Position, with_piece_moved}
use Rattle.pb_moves.specs.Attacks.{Attacks, Clear, IsAttacked}
use Rattle.pb_moves.specs.Moved.{Moved}
use Rattle.pb_moves.specs.Candidate.{IsOwn}
use Rattle.pb_moves.specs.Unpinned.{IsUnpinned}
use Rattle.pb_moves.specs.Legal.{Legal, PseudoLegal}
use Rattle.pb_moves.specs.Successor.{Differs, after}
use Rattle.pb_moves.specs.MovedPieces.{LeadsTo}
use Rattle.pb_moves.proofs.MovedPiece.{put}
use Rattle.pb_moves.proofs.Differing.{arrived, carried_put, left, lifted_put, off_one, off_two, same_or_not}
use Rattle.pb_moves.proofs.Kings.{holds_one, holds_at, empty_holds, no_king}
use Rattle.pb_moves.proofs.Kept.{king_stays}
use Rattle.pb_moves.proofs.Ways.{kind_is}

-- what is clear after a piece has gone elsewhere is clear where the piece is gone for good
pub clear_lifted : (old new lifted : Board) (from to a b : ℕ) (p : Piece) → Differs old new ((from, None) ∷ (to, Some p) ∷ []) → Differs old lifted ((from, None) ∷ []) → Clear new a b → Clear lifted a b
clear_lifted old new lifted from to a b p moved gone clear q on between =
    let empty = clear q on between in
    let E : ℕ → Type 0 = λ r. IsEmpty lifted r in
    elim (same_or_not q from) [
      | inl same ↦ subst E (sym same) (gone.named 0 (0, None) (omega arith))
      | inr off ↦
          (let off_to : q ≢ to = λ same. empty_holds new to q p empty (sym same) (arrived old new from to p [] moved) in
          gone.others q (off_one q (from, None) off) ∙ (sym (moved.others q (off_two q (from, None) (to, Some p) off off_to)) ∙ empty))
    ]

pub attacks_lifted : (colour : Colour) (kind : Kind) (old new lifted : Board) (from to a b : ℕ) (p : Piece) → Differs old new ((from, None) ∷ (to, Some p) ∷ []) → Differs old lifted ((from, None) ∷ [])
    → Attacks colour kind new a b → Attacks colour kind lifted a b
attacks_lifted _ _ old new lifted from to a b p moved gone r = (r.0, r.1, clear_lifted old new lifted from to a b p moved gone r.2)

pub differ : (side : Colour) → opponent side ≢ side
differ White same = cc
differ Black same = cc

-- an attack on the king after the move is there where the piece is gone for good
pub attacked_lifted : (old new lifted : Board) (side : Colour) (from to king : ℕ) (p : Piece) → Differs old new ((from, None) ∷ (to, Some p) ∷ []) → Differs old lifted ((from, None) ∷ []) → p.colour ≡ side
    → IsAttacked new (opponent side) king → IsAttacked lifted (opponent side) king
attacked_lifted old new lifted side from to king p moved gone own (a, kind, stands, attacks) =
    let q = piece_of (opponent side) kind in
    let off_from : a ≢ from = λ same. empty_holds new a from q (left old new from to p [] moved) same stands in
    let off_to : a ≢ to = λ same. (
    let here : q ≡ p = holds_one new to q p (holds_at new a to q same stands) (arrived old new from to p [] moved) in
    let F : Piece → Colour = λ x. x.colour in
    differ side (ap F here ∙ own)) in (
      a,
      kind,
      gone.others a (off_one a (from, None) off_from) ∙ (sym (moved.others a (off_two a (from, None) (to, Some p) off_from off_to)) ∙ stands),
      attacks_lifted (opponent side) kind old new lifted from to a king p moved gone attacks,
    )

-- so the move of a piece that its king doesn't need is legal
pub legal_unpinned : (s : Position) (m : Moved) (p : Piece) (first : MovedPiece) → IsOwn s m.from p
    → PseudoLegal s m × LeadsTo s m (first, None) → IsUnpinned s m.from p → Legal s m
legal_unpinned s m p first own (h, leads) unpinned =
    let new = with_moved s.board first in
    let lifted = put s.board m.from None in
    let is = h.is_move in
    let D : ℕ → ℕ → Type 0 = λ f t. Differs s.board (with_piece_moved s.board f t first.piece) ((m.from, None) ∷ (m.to, Some first.piece) ∷ []) in
    let moved : D first.from first.to = subst (λ (f : ℕ). D f first.to) (sym leads.0.leaves) (subst (D m.from) (sym (leads.0.reaches refl))
    (carried_put s.board m.from m.to first.piece unpinned.rules.places is.from_on_board is.to_on_board is.moves)) in
    let gone = lifted_put s.board m.from unpinned.rules.places is.from_on_board in
    let no_king_kind = λ (e : h.kind ≡ King). unpinned.no_king (kind_is s m p h own.stands ∙ e) in
    let stays = king_stays s m s.turn unpinned.king unpinned.rules h (no_king (piece_of s.turn h.kind) s.turn no_king_kind) unpinned.only in
    record {
      moves = h;
      safe = λ check.
          (let here : check.0 ≡ unpinned.king = (stays check.0).0 check.1 in
          let P : ℕ → Type 0 = λ k. IsAttacked (after s m).board (opponent s.turn) k in
          let B : Board → Type 0 = λ b. IsAttacked b (opponent s.turn) unpinned.king in
          unpinned.covered lifted gone (attacked_lifted s.board new lifted s.turn m.from m.to unpinned.king first.piece moved gone leads.0.arrives.own (subst B leads.1 (subst P here check.2))));
    }
