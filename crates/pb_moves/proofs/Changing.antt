-- What is seen after a move, and whether its king is safe then, told from the setup before it.
use Rattle.std.proofs.Common.{◌≡◌, ◌≢◌, ◌↔◌, ℕ, Bool, true, false, not, IsTrue, refl, sym, ap, subst, ◌∙◌, Option, Some, None, [], ◌∷◌, length}
use Rattle.std.proofs.lemmas.Bool.{false≢true}
use Rattle.pb_board.specs.declared.piece.Colour.{Colour}
use Rattle.pb_board.specs.declared.piece.Piece.{Piece}
use Rattle.pb_board.specs.declared.setup.MovedPiece.{MovedPiece}
use Rattle.pb_board.specs.Piece.{opponent}
use Rattle.pb_board.specs.Board.{Board, Holds}
use Rattle.pb_board.specs.MovedPiece.{with_moved, with_pieces_moved}
use Rattle.pb_board.specs.Position.{Position, IsSetup, IsOnlyKing}
use Rattle.pb_moves.specs.declared.check.Sight.{Sight}
use Rattle.pb_moves.specs.Moved.{Moved}
use Rattle.pb_moves.specs.MovedPieces.{CanArrive, Fits, LeadsTo}
use Rattle.pb_moves.specs.Attacks.{InCheck, IsAttacked}
use Rattle.pb_moves.specs.Candidate.{IsOwn}
use Rattle.pb_moves.specs.Legal.{Legal, PseudoLegal}
use Rattle.pb_moves.specs.Successor.{Differs, after}
use Rattle.pb_moves.specs.Attackers.{IsSight}
use Rattle.pb_moves.proofs.Differing.{carried_put, holds_on_board, length_put}
use Rattle.pb_moves.proofs.Pins.{differ}

pub own_differs : (side enemy colour : Colour) → enemy ≡ opponent side → colour ≡ side → colour ≢ enemy
own_differs side enemy colour e c same =
    let both : opponent side ≡ side = sym e ∙ (sym same ∙ c) in differ side both

-- what is seen of the enemy before and after the side to move has moved a piece
abbrev pub Follows : Position → Sight → ℕ → ℕ → Sight → Type 0
Follows s seen from to after = (old new : Board) (piece own : Piece) → IsSight s.board old (opponent s.turn) seen → Differs old new ((from, None) ∷ (to, Some piece) ∷ [])
    → piece.colour ≡ s.turn → Holds old from own → own.colour ≡ s.turn → IsSight s.board new (opponent s.turn) after

pub follows : (s : Position) (seen : Sight) (from to : ℕ) (after : Sight)
    → ((first old new : Board) (by : Colour) (piece own : Piece) → IsSight first old by seen → Differs old new ((from, None) ∷ (to, Some piece) ∷ []) → piece.colour ≢ by → Holds old from own → own.colour ≢ by → IsSight first new by after)
    → Follows s seen from to after
follows s seen from to after carries old new piece own sees moved arrives stands leaves =
    let other = λ (p : Piece) (e : p.colour ≡ s.turn). own_differs s.turn (opponent s.turn) p.colour refl e in
    carries s.board old new (opponent s.turn) piece own sees moved (other piece arrives) stands (other own leaves)

-- what is seen after a piece has gone
sees_going : (s : Position) (board : Board) (c : MovedPiece) (own : Piece) (seen after : Sight) → length board ≡ 64 → CanArrive s.turn c → Holds board c.from own → own.colour ≡ s.turn
    → IsSight s.board board (opponent s.turn) seen → Follows s seen c.from c.to after → IsSight s.board (with_moved board c) (opponent s.turn) after
sees_going s board c own seen after full arrives stands leaves sees carries =
    carries board (with_moved board c) c.piece own sees
    (carried_put board c.from c.to c.piece full (holds_on_board board c.from own full stands) arrives.on_board arrives.moves) arrives.own stands leaves

pub sees_first : (s : Position) (m : Moved) (piece : Piece) (first : MovedPiece) (second : Option MovedPiece) (seen one : Sight) → IsSetup s → IsOwn s m.from piece → Fits s m first second
    → IsSight s.board s.board (opponent s.turn) seen → Follows s seen first.from first.to one → IsSight s.board (with_moved s.board first) (opponent s.turn) one
sees_first s m piece first second seen one ok own fits sees carries =
    let H : ℕ → Type 0 = λ q. Holds s.board q piece in
    sees_going s s.board first piece seen one ok.places fits.arrives (subst H (sym fits.leaves) own.stands) own.own sees carries

pub sees_second : (s : Position) (m : Moved) (first second : MovedPiece) (one two : Sight) → IsSetup s → Fits s m first (Some second)
    → IsSight s.board (with_moved s.board first) (opponent s.turn) one → Follows s one second.from second.to two
    → IsSight s.board (with_pieces_moved s.board first (Some second)) (opponent s.turn) two
sees_second s m first second one two ok fits sees carries =
    let full = length_put _ first.to (Some first.piece) (length_put s.board first.from None ok.places) in
    sees_going s (with_moved s.board first) second second.piece one two full fits.follows.arrives fits.follows.stands fits.follows.arrives.own sees carries

-- the king's square is attacked just where the side is in check
check_by_attack : (new : Board) (side enemy : Colour) (king : ℕ) → enemy ≡ opponent side → IsOnlyKing new side king → IsAttacked new enemy king → InCheck new side
check_by_attack new side enemy king e only attack =
    let P : Colour → Type 0 = λ x. IsAttacked new x king in
    (king, (only king).1 refl, subst P e attack)

attack_by_check : (new : Board) (side enemy : Colour) (king : ℕ) → enemy ≡ opponent side → IsOnlyKing new side king → InCheck new side → IsAttacked new enemy king
attack_by_check new side enemy king e only check =
    let P : Colour → Type 0 = λ x. IsAttacked new x king in
    let K : ℕ → Type 0 = λ x. IsAttacked new (opponent side) x in
    subst P (sym e) (subst K ((only check.0).0 check.1) check.2)

-- the mover is safe, and the move legal, just where the test finds no attack on its king
test_tells : (s : Position) (m : Moved) (enemy : Colour) (king : ℕ) (hit : Bool) → PseudoLegal s m → enemy ≡ opponent s.turn → IsOnlyKing (after s m).board s.turn king
    → (IsTrue hit ↔ IsAttacked (after s m).board enemy king) → (IsTrue (not hit) ↔ Legal s m)
test_tells s m enemy king true h e only tells = (
  λ no. absurd (false≢true no),
  λ legal. absurd (legal.safe (check_by_attack (after s m).board s.turn enemy king e only (tells.0 refl))),
)
test_tells s m enemy king false h e only tells = (
  λ no. record { moves = h; safe = λ check. false≢true (tells.1 (attack_by_check (after s m).board s.turn enemy king e only check)) },
  λ legal. refl,
)

pub safe_test : (s : Position) (m : Moved) (moved : MovedPiece × Option MovedPiece) (side enemy : Colour) (king : ℕ) (sight : Sight) (hit : Bool)
    → PseudoLegal s m × LeadsTo s m moved → side ≡ s.turn → enemy ≡ opponent side → (PseudoLegal s m → IsOnlyKing (after s m).board s.turn king)
    → IsSight s.board (with_pieces_moved s.board moved.0 moved.1) (opponent s.turn) sight
    → ((b : Board) → IsSight s.board b enemy sight → (IsTrue hit ↔ IsAttacked b enemy king)) → (IsTrue (not hit) ↔ Legal s m)
safe_test s m moved side enemy king sight hit (h, leads) same e only sees tells =
    let other : enemy ≡ opponent s.turn = e ∙ ap opponent same in
    let S : Colour → Type 0 = λ x. IsSight s.board (with_pieces_moved s.board moved.0 moved.1) x sight in
    let B : Board → Type 0 = λ b. IsSight s.board b enemy sight in
    test_tells s m enemy king hit h other (only h) (tells (after s m).board (subst B (sym leads.1) (subst S (sym other) sees)))
