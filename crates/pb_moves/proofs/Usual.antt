-- The moves by which the piece alone goes, told by tests, and those by which another goes too.
use Rattle.std.proofs.Common.{◌≡◌, ◌≢◌, ◌⊎◌, ◌↔◌, ℕ, arith, inl, inr, refl, sym, ap, subst, ◌∙◌, ◌≤◌, Option, Some, None, List, ◌∷◌}
use Rattle.std.specs.Prelude.{unwrap_or}
use Rattle.std.proofs.lemmas.Bool.{false≢true}
use Rattle.pb_board.specs.declared.piece.Colour.{Colour}
use Rattle.pb_board.specs.declared.piece.Kind.{Kind}
use Rattle.pb_board.specs.declared.piece.Kind.TheVariants.{Pawn, King}
use Rattle.pb_board.specs.declared.piece.Piece.{Piece}
use Rattle.pb_board.specs.Board.{Board, Place, IsEmpty}
use Rattle.pb_board.specs.Piece.{king_of, piece_of}
use Rattle.pb_board.specs.Position.{Position}
use Rattle.pb_board.specs.declared.setup.MovedPiece.{MovedPiece}
use Rattle.pb_moves.specs.Attacks.{Pattern, files_apart, ranks_apart}
use Rattle.pb_moves.specs.Candidate.{GoesAlone, GoesInTwo, GoesTo, IsOwn, Promotes, TakesEnPassant}
use Rattle.pb_moves.specs.Legal.{Castles, IsCapturable, PseudoLegal}
use Rattle.pb_moves.specs.MovedPieces.{Finds, LeadsTo}
use Rattle.pb_moves.specs.Moved.{Moved, IsMove}
use Rattle.pb_moves.proofs.Carrying.{going}
use Rattle.pb_moves.proofs.Castlings.{near_is_none}
use Rattle.pb_moves.proofs.Kings.{holds_one}
use Rattle.pb_moves.proofs.MovedPiece.{puts}
use Rattle.pb_moves.proofs.Ways.{alone_besides, alone_goes, carried_is, own_goes, own_promotes, pseudo_legal}

-- the piece goes alone, told by other names of the two squares
abbrev At : Position → Piece → ℕ → ℕ → Type 0
At s p from to = (IsEmpty s.board to ⊎ IsCapturable s to) × GoesTo p s.board from to

pub alone_at : (s : Position) (m : Moved) (p : Piece) (from to : ℕ) → from ≡ m.from → to ≡ m.to → At s p from to ↔ GoesAlone s m p
alone_at s m p from to f t = (
  λ h. subst (At s p m.from) t (subst (λ (q : ℕ). At s p q to) f h),
  λ h. subst (λ (q : ℕ). At s p q to) (sym f) (subst (At s p m.from) (sym t) h),
)

-- a king that goes alone goes one file at most
king_goes_near : (p : Piece) (side : Colour) (board : Board) (a b : ℕ) → p ≡ king_of side → GoesTo p board a b → files_apart a b ≤ 1
king_goes_near p side board a b is (inl goes) =
    let kind : p.kind ≡ King = ap (λ (x : Piece). x.kind) is in
    let near : Pattern King (files_apart a b) (ranks_apart a b) = subst (λ (k : Kind). Pattern k (files_apart a b) (ranks_apart a b)) kind goes.0.0 in
    omega (arith, near)
king_goes_near p side board a b is (inr goes) = absurd (let pawn = goes.0 in cc)

pub usual_found : (s : Position) (m : Moved) (p : Piece) (k : Kind) (from to : ℕ) → IsOwn s m.from p → from ≡ m.from → to ≡ m.to → IsMove m
    → Promotes p.colour m p.kind → k ≡ unwrap_or m.promo p.kind → GoesAlone s m p
    → (PseudoLegal s m × GoesAlone s m p) × LeadsTo s m (going from to (piece_of p.colour k), None)
usual_found s m p k from to own from_is to_is is promotes k_is goes =
    let becoming = piece_of p.colour (unwrap_or m.promo p.kind) in
    let N : Colour → Type 0 = λ side. Promotes side m p.kind in
    let pseudo = pseudo_legal s m p own is (alone_goes s m p own.own goes) (subst N own.own promotes) in
    let B : List (ℕ × Place) → Board = λ bs. puts s.board ((m.from, None) ∷ (m.to, Some becoming) ∷ bs) in
    let L : ℕ → ℕ → Kind → Type 0 = λ f t x. LeadsTo s m (going f t (piece_of p.colour x), None) in
    let leads : L m.from m.to (unwrap_or m.promo p.kind) = (
      record {
        leaves = refl;
        arrives = record { own = own.own; on_board = is.to_on_board; moves = is.moves };
        reaches = λ e. refl;
        follows = tt;
        castles = λ king castles.
            (let near = king_goes_near p s.turn s.board m.from m.to (holds_one s.board m.from p (king_of s.turn) own.stands king) goes.1 in
            false≢true (sym (near_is_none s.turn m near) ∙ castles));
      },
      carried_is s m p own.stands ∙ ap B (alone_besides s m p goes),
    ) in (
      (pseudo, goes),
      subst (λ (x : Kind). L from to x) (sym k_is) (subst (λ (f : ℕ). L f to (unwrap_or m.promo p.kind)) (sym from_is)
          (subst (λ (t : ℕ). L m.from t (unwrap_or m.promo p.kind)) (sym to_is) leads)),
    )

pub usual_unnamed : (s : Position) (m : Moved) (p : Piece) → IsOwn s m.from p → ¬ Promotes p.colour m p.kind → ¬ (PseudoLegal s m × GoesAlone s m p)
usual_unnamed s m p own none x = none (own_promotes s m p own x.0)

pub usual_case : (s : Position) (m : Moved) (p : Piece) (moved : MovedPiece × Option MovedPiece) → Finds (PseudoLegal s m × GoesAlone s m p) s m (Some moved)
    → Finds (PseudoLegal s m) s m (Some moved)
usual_case s m p moved h = (h.0.0, h.1)

pub unusual_case : (s : Position) (m : Moved) (p : Piece) (o : Option (MovedPiece × Option MovedPiece)) → IsOwn s m.from p → ¬ (PseudoLegal s m × GoesAlone s m p)
    → Finds (PseudoLegal s m × GoesInTwo s m p.kind) s m o → Finds (PseudoLegal s m) s m o
unusual_case s m p (Some moved) own none h = (h.0.0, h.1)
unusual_case s m p None own none h = λ x. elim (own_goes s m p own x) [ inl usual ↦ none (x, usual) | inr other ↦ h (x, other) ]

pub pawn_unusual : (s : Position) (m : Moved) (p : Piece) (o : Option (MovedPiece × Option MovedPiece)) → p.kind ≡ Pawn → Finds (PseudoLegal s m × TakesEnPassant s m) s m o
    → Finds (PseudoLegal s m × GoesInTwo s m p.kind) s m o
pawn_unusual s m p (Some moved) pawn h = ((h.0.0, inl (pawn, h.0.1)), h.1)
pawn_unusual s m p None pawn h = λ x. elim x.1 [ inl y ↦ h (x.0, y.1) | inr y ↦ (let king = y.0 in absurd cc) ]

pub king_unusual : (s : Position) (m : Moved) (p : Piece) (o : Option (MovedPiece × Option MovedPiece)) → p.kind ≡ King → Finds (PseudoLegal s m × Castles s m) s m o
    → Finds (PseudoLegal s m × GoesInTwo s m p.kind) s m o
king_unusual s m p (Some moved) king h = ((h.0.0, inr (king, h.0.1)), h.1)
king_unusual s m p None king h = λ x. elim x.1 [ inl y ↦ (let pawn = y.0 in absurd cc) | inr y ↦ h (x.0, y.1) ]

pub none_unusual : (s : Position) (m : Moved) (p : Piece) → p.kind ≢ Pawn → p.kind ≢ King → ¬ (PseudoLegal s m × GoesInTwo s m p.kind)
none_unusual s m p no_pawn no_king x = elim x.1 [ inl y ↦ no_pawn y.0 | inr y ↦ no_king y.0 ]
