-- The moves of two pieces: a pawn that takes another en passant goes by way of that pawn's square,
-- and a rook goes after its king.
use Rattle.std.proofs.Common.{◌≡◌, ◌≢◌, ◌↔◌, ℕ, ◌+◌, ◌*◌, ◌<◌, arith, refl, sym, ap, subst, ◌∙◌, inl, inr, Option, Some, None, List, [], ◌∷◌, length}
use Rattle.std.specs.Prelude.{IsSome, unwrap_or}
use Rattle.std.proofs.lemmas.List.{set-set}
use Rattle.std.proofs.lemmas.List.Elements.{All-nil, All-cons}
use Rattle.pb_board.specs.declared.piece.Colour.{Colour}
use Rattle.pb_board.specs.declared.piece.Kind.{Kind}
use Rattle.pb_board.specs.declared.piece.Kind.TheVariants.{Pawn, King}
use Rattle.pb_board.specs.declared.piece.Piece.{Piece}
use Rattle.pb_board.specs.Piece.{king_of, pawn_of, piece_of, rook_of}
use Rattle.pb_board.specs.Board.{Board, Place, at, file, rank, rank_for}
use Rattle.pb_board.specs.declared.setup.MovedPiece.{MovedPiece}
use Rattle.pb_board.specs.MovedPiece.{with_moved, with_pieces_moved}
use Rattle.pb_board.specs.Position.{Position, IsSetup}
use Rattle.pb_board.specs.declared.castling.Castling.{Castling}
use Rattle.pb_board.specs.Castling.{castling_row}
use Rattle.pb_moves.specs.Attacks.{Attacks, files_apart, ranks_apart}
use Rattle.pb_moves.specs.Candidate.{IsOwn, TakesEnPassant}
use Rattle.pb_moves.specs.Legal.{Castles, PseudoLegal}
use Rattle.pb_moves.specs.Successor.{Differs, after, besides}
use Rattle.pb_moves.specs.MovedPieces.{LeadsTo}
use Rattle.pb_moves.specs.Moved.{Moved, IsMove}
use Rattle.pb_moves.proofs.MovedPiece.{put, puts}
use Rattle.pb_moves.proofs.Castlings.{asked_by, rook_home_is, row_told, rows}
use Rattle.pb_moves.proofs.Differing.{All-two, at_put_other, at_put_same, differs_one, differs_put, length_put, lifted_put, off_one, off_two}
use Rattle.pb_moves.proofs.Kings.{castling_unpinned, holds_one}
use Rattle.pb_moves.proofs.Successors.{beside_castling, taken_is}
use Rattle.pb_moves.proofs.Unique.{en_passant_at, piece_is}
use Rattle.pb_moves.proofs.Ways.{after_differs, carried_is, own_is, own_kind, passes, pseudo_legal, two_goes, unpromoted}

-- what stands on the squares after a piece has gone
arrives_at : (board : Board) (c : MovedPiece) → length board ≡ 64 → c.to < 64 → at (with_moved board c) c.to ≡ Some c.piece
arrives_at board c full on = at_put_same (put board c.from None) c.to (Some c.piece) (length_put board c.from None full) on

stays_at : (board : Board) (c : MovedPiece) (q : ℕ) → q ≢ c.from → q ≢ c.to → at (with_moved board c) q ≡ at board q
stays_at board c q from to = at_put_other (put board c.from None) c.to q (Some c.piece) to ∙ at_put_other board c.from q None from

abbrev pub going : ℕ → ℕ → Piece → MovedPiece
going from to piece = record { from = from; to = to; piece = piece }

-- the squares in the order in which they change, in that of a capture en passant
past_in_order : (old new : Board) (a b c : ℕ × Place) → Differs old new (a ∷ c ∷ b ∷ []) → Differs old new (a ∷ b ∷ c ∷ [])
past_in_order old new a b c moved =
    let N : ℕ × Place → Type 0 = λ x. at new x.0 ≡ x.1 in
    record {
      squares = moved.squares;
      named = All-two N a b (c ∷ []) (moved.named 0 a (omega arith)) (moved.named 2 a (omega arith)) (All-cons N c [] (moved.named 1 a (omega arith)) (All-nil N));
      others = λ q off.
          (let O : ℕ × Place → Type 0 = λ x. q ≢ x.0 in
          moved.others q (All-two O a c (b ∷ []) (off 0 a (omega arith)) (off 2 a (omega arith)) (off_one q b (off 1 a (omega arith)))));
    }

-- a pawn goes by way of the square of the pawn that it takes
goes_past : (p : Piece) (old : Board) (from to gone : ℕ) → length old ≡ 64 → from < 64 → to < 64 → gone < 64 → from ≢ to → gone ≢ from → gone ≢ to
    → Differs old (with_pieces_moved old (going from gone p) (Some (going gone to p))) ((from, None) ∷ (to, Some p) ∷ (gone, None) ∷ [])
goes_past p old from to gone full on_from on_to on_gone ne apart_from apart_to =
    let a : ℕ × Place = (from, None) in
    let b : ℕ × Place = (to, Some p) in
    let c : ℕ × Place = (gone, None) in
    let left : Board = put old from None in
    let two = differs_put old left (a ∷ []) gone None (lifted_put old from full on_from) on_gone (off_one gone a apart_from) in
    let three = differs_put old (put left gone None) (a ∷ c ∷ []) to (Some p) two on_to (off_two to a c (λ e. ne (sym e)) (λ e. apart_to (sym e))) in
    let P : Board → Type 0 = λ x. Differs old x (a ∷ b ∷ c ∷ []) in
    let same = ap (λ (x : Board). put x to (Some p)) (set-set left gone (Some p) None) in
    subst P (sym same) (past_in_order old (put (put left gone None) to (Some p)) a b c three)

-- a pawn that takes another en passant isn't promoted
pub passes_unpromoted : (s : Position) (m : Moved) → IsSetup s → PseudoLegal s m → s.ep ≡ Some m.to → m.promo ≡ None
passes_unpromoted s m ok h square =
    let on : rank_for s.turn m.to ≡ 5 = (en_passant_at s m.to ok square).0 in
    unpromoted s.turn m h.kind h.promotes (λ last. let seven = last.1 in omega (arith, on, seven))

-- nothing is named where nothing is to be
unnamed : (o : Option Kind) (Q : Type 0) → o ≡ None → ¬ Q → IsSome o ↔ Q
unnamed None Q none out = ((λ h. absurd cc), λ q. absurd (out q))
unnamed (Some k) Q none out = absurd cc

pawn_no_king : (p : Piece) (side : Colour) → p.kind ≡ Pawn → p ≢ king_of side
pawn_no_king p side pawn king = let kind = ap (λ (x : Piece). x.kind) king in absurd cc

pub takes_past : (s : Position) (m : Moved) (pawn : Piece) (from to gone : ℕ) → IsSetup s → IsMove m → IsOwn s m.from pawn → pawn.kind ≡ Pawn
    → m.promo ≡ None → s.ep ≡ Some m.to → Attacks pawn.colour pawn.kind s.board m.from m.to → from ≡ m.from → to ≡ m.to → gone ≡ 8 * rank m.from + file m.to
    → (PseudoLegal s m × TakesEnPassant s m) × LeadsTo s m (going from gone pawn, Some (going gone to pawn))
takes_past s m pawn from to gone ok is own is_pawn none square reaches from_is to_is gone_is =
    let side = s.turn in
    let piece : pawn ≡ pawn_of side = piece_is pawn side Pawn own.own is_pawn in
    let A : Piece → Type 0 = λ p. Attacks p.colour p.kind s.board m.from m.to in
    let takes : TakesEnPassant s m = (square, subst A piece reaches) in
    let x = passes s m takes in
    let there = en_passant_at s m.to ok square in
    let on : rank_for side m.to ≡ 5 = there.0 in
    let pseudo : PseudoLegal s m = record {
      is_move = is;
      kind = pawn.kind;
      stands = own_kind s m.from pawn own;
      goes = two_goes s m pawn.kind (inl (is_pawn, takes));
      promotes = unnamed m.promo ((pawn.kind ≡ Pawn) × (rank_for side m.to ≡ 7)) none (λ last. let seven = last.1 in omega (arith, on, seven));
    } in
    let files : files_apart m.from m.to ≡ 1 = x.files in
    let ranks : ranks_apart m.from m.to ≡ 1 = x.ranks in
    let on_from = is.from_on_board in
    let on_to = is.to_on_board in
    let on_gone : gone < 64 = omega arith in
    let off_from : gone ≢ m.from = λ e. omega arith in
    let off_to : gone ≢ m.to = λ e. omega arith in
    let first = going m.from gone pawn in
    let second = going gone m.to pawn in
    let new = with_pieces_moved s.board first (Some second) in
    let D : Piece → List (ℕ × Place) → Type 0 = λ p bs. Differs s.board (after s m).board ((m.from, None) ∷ (m.to, Some p) ∷ bs) in
    let arrives : piece_of side (unwrap_or m.promo pawn.kind) ≡ pawn = ap (λ (o : Option Kind). piece_of side (unwrap_or o pawn.kind)) none ∙ sym (own_is s m pawn pseudo own.stands) in
    let besides_are : besides s.board m side pawn.kind ≡ (gone, None) ∷ [] =
    taken_is s m side pawn.kind ok is_pawn x.files x.forward square ∙ ap (λ (g : ℕ). let goes : List (ℕ × Place) = (g, None) ∷ [] in goes) (sym (gone_is ∙ x.gone)) in
    let differs = subst (λ (p : Piece). D p ((gone, None) ∷ [])) arrives (subst (D (piece_of side (unwrap_or m.promo pawn.kind))) besides_are (after_differs s m ok pseudo)) in
    let board = differs_one s.board (after s m).board new ((m.from, None) ∷ (m.to, Some pawn) ∷ (gone, None) ∷ []) differs
    (goes_past pawn s.board m.from m.to gone ok.places on_from on_to on_gone is.moves off_from off_to) in
    let L : ℕ → ℕ → Type 0 = λ f t. LeadsTo s m (going f gone pawn, Some (going gone t pawn)) in
    let leads : L m.from m.to = (
      record {
        leaves = refl;
        arrives = record { own = own.own; on_board = on_gone; moves = λ e. off_from (sym e) };
        reaches = λ e. absurd cc;
        follows = record {
          arrives = record { own = own.own; on_board = on_to; moves = off_to };
          stands = arrives_at s.board first ok.places on_gone;
          empty = stays_at s.board first m.to (λ e. is.moves (sym e)) (λ e. off_to (sym e)) ∙ there.1.0;
        };
        castles = λ king. absurd (pawn_no_king pawn side is_pawn (holds_one s.board m.from pawn (king_of side) own.stands king));
      },
      board,
    ) in
    ((pseudo, takes), subst (λ (f : ℕ). L f to) (sym from_is) (subst (L m.from) (sym to_is) leads))

pub castles_so : (c : Castling) (s : Position) (m : Moved) (king rook : Piece) (from to rook_from rook_to : ℕ) → IsSetup s → IsMove m → IsOwn s m.from king → king.kind ≡ King
    → m.promo ≡ None → m.from ≡ (castling_row c).king_from → m.to ≡ (castling_row c).king_to → Castles s m
    → from ≡ m.from → to ≡ m.to → rook ≡ rook_of (castling_row c).colour → rook_from ≡ (castling_row c).rook_from → rook_to ≡ (castling_row c).rook_to
    → (PseudoLegal s m × Castles s m) × LeadsTo s m (going from to king, Some (going rook_from rook_to rook))
castles_so c s m king rook from to rook_from rook_to ok is own is_king none home target may from_is to_is rook_is rook_from_is rook_to_is =
    let row = castling_row c in
    let squares = rows c in
    let first = going m.from m.to king in
    let by = row_told c s m home target may in
    let asks = asked_by c s m by may in
    let unpinned = castling_unpinned c s asks in
    let pseudo = pseudo_legal s m king own is (inr (inr (is_king, may)))
    (unnamed m.promo ((king.kind ≡ Pawn) × (rank_for s.turn m.to ≡ 7)) none (λ last. let pawn = last.0 in cc)) in
    let off_from : (q : ℕ) → row.king_from ≢ q → q ≢ m.from = λ q ne e. ne (sym (e ∙ home)) in
    let off_to : (q : ℕ) → row.king_to ≢ q → q ≢ m.to = λ q ne e. ne (sym (e ∙ target)) in
    let kept : (q : ℕ) → row.king_from ≢ q → row.king_to ≢ q → at (with_moved s.board first) q ≡ at s.board q = λ q f t. stays_at s.board first q (off_from q f) (off_to q t) in
    let B : Option Kind → List (ℕ × Place) → Board = λ o bs. puts s.board ((m.from, None) ∷ (m.to, Some (piece_of king.colour (unwrap_or o king.kind))) ∷ bs) in
    let L : ℕ → ℕ → ℕ → ℕ → Piece → Type 0 = λ f t g u p. LeadsTo s m (going f t king, Some (going g u p)) in
    let leads : L m.from m.to row.rook_from row.rook_to (rook_of row.colour) = (
      record {
        leaves = refl;
        arrives = record { own = own.own; on_board = is.to_on_board; moves = is.moves };
        reaches = λ e. refl;
        follows = record {
          arrives = record { own = sym by.side_is; on_board = squares.rook_to; moves = squares.rook_moves };
          stands = kept row.rook_from squares.from_rook squares.to_rook ∙ asks.1;
          empty = kept row.rook_to squares.from_rook_to squares.to_rook_to ∙ unpinned.1;
        };
        castles = λ king. (may.goes, sym (rook_home_is s.turn m c by));
      },
      carried_is s m king own.stands ∙ ap (λ (o : Option Kind). B o (besides s.board m king.colour king.kind)) none
          ∙ ap (B None) (beside_castling c king.colour s.board m king.kind is_king (own.own ∙ by.side_is) home target asks.1),
    ) in (
      (pseudo, may),
      subst (λ (f : ℕ). L f to rook_from rook_to rook) (sym from_is) (subst (λ (t : ℕ). L m.from t rook_from rook_to rook) (sym to_is)
          (subst (λ (g : ℕ). L m.from m.to g rook_to rook) (sym rook_from_is) (subst (λ (u : ℕ). L m.from m.to row.rook_from u rook) (sym rook_to_is)
          (subst (L m.from m.to row.rook_from row.rook_to) (sym rook_is) leads)))),
    )
