-- A move of a setup leads to a setup: one king of each colour, no pawn on the first or last rank,
-- and a fitting en passant square.
use Rattle.std.proofs.Common.{◌≡◌, ◌≢◌, ℕ, ◌+◌, ◌/◌, ◌<◌, ◌⊎◌, ◌↔◌, refl, arith, inl, inr, sym, ap, subst, ◌∙◌, Option, Some, None, List, [], ◌∷◌}
use Rattle.std.specs.Prelude.{All, unwrap_or}
use Rattle.std.proofs.lemmas.List.Elements.{All-nil, All-cons}
use Rattle.pb_board.specs.declared.piece.Colour.{Colour}
use Rattle.pb_board.specs.declared.piece.Colour.TheVariants.{White, Black}
use Rattle.pb_board.specs.declared.piece.Kind.{Kind}
use Rattle.pb_board.specs.declared.piece.Kind.TheVariants.{Pawn, King}
use Rattle.pb_board.specs.declared.piece.Piece.{Piece}
use Rattle.pb_board.specs.Piece.{opponent, king_of, pawn_of, piece_of, rook_of}
use Rattle.pb_board.specs.Board.{Board, Place, file, rank, rank_for, Holds, IsForward}
use Rattle.pb_board.specs.Position.{Position, position_of, IsOnlyKing, IsSetup, HasKings, HasNoEdgePawn, EnPassantHolds, OnEnPassantRank, double_stepped}
use Rattle.pb_board.specs.Castling.{castling_row}
use Rattle.pb_board.proofs.Kings.{both_kings}
use Rattle.pb_moves.specs.Legal.{MayGo, PseudoLegal, Pushes}
use Rattle.pb_moves.specs.Moved.{Moved, IsPromotion}
use Rattle.pb_moves.specs.Successor.{Differs, IsAfter, after, besides, changes, en_passant_after, rights_after}
use Rattle.pb_moves.proofs.Differing.{All-two, arrived, differs_one, each_place, off_two}
use Rattle.pb_moves.proofs.Kings.{castling_unpinned, empty_at, empty_holds, enemy_no_king, holds_at, holds_one, king_goes_differs, king_or_not, king_stays_differs, no_king, open_no_king, pawn_reach, rook_no_king, some_one}
use Rattle.pb_moves.proofs.Passing.{halfway_between, halfway_empty}
use Rattle.pb_moves.proofs.Successors.{beside_straight, ep_double, ep_other, ep_single}
use Rattle.pb_moves.proofs.Unique.{en_passant_at, piece_is, step_ranks}
use Rattle.pb_moves.proofs.Ways.{Way, after_differs, after_parts, alone, castling, king_unpromoted, passing, pawn_or_not, unpromoted, way}

-- ---- kings

-- the square that is reached holds no king
pub to_no_king : (s : Position) (m : Moved) (kind : Kind) (c : Colour) → IsSetup s → Way s m kind → ¬ Holds s.board m.to (king_of c)
to_no_king s m k c ok (alone goes e) = open_no_king s m.to c goes.0
to_no_king s m k c ok (passing pawn takes e) = open_no_king s m.to c (inl (en_passant_at s m.to ok takes.0).1.0)
to_no_king s m k c ok (castling king d x asks e) =
    open_no_king s m.to c (inl (empty_at s.board (castling_row d).king_to m.to (sym x.to_is) (castling_unpinned d s asks).0))

-- the place gets no king of this side, and had none
abbrev Spares : Position → Colour → ℕ × Place → Type 0
Spares s side c = (c.1 ≢ Some (king_of side)) × ¬ Holds s.board c.0 (king_of side)

beside_spares : (s : Position) (m : Moved) (kind : Kind) (side : Colour) → IsSetup s → Way s m kind → All (Spares s side) (besides s.board m s.turn kind)
beside_spares s m k side ok (alone goes e) = subst (All (Spares s side)) (sym e) (All-nil (Spares s side))
beside_spares s m k side ok (passing pawn takes e) =
    let square = en_passant_at s m.to ok takes.0 in
    let F : Piece → Kind = λ z. z.kind in
    subst (All (Spares s side)) (sym e)
    (All-cons (Spares s side) (double_stepped s.turn m.to, None) [] ((λ e. absurd cc), λ h. let same = ap F (holds_one s.board (double_stepped s.turn m.to) _ _ square.1.1 h) in cc) (All-nil (Spares s side)))
beside_spares s m k side ok (castling king c x asks e) =
    let row = castling_row c in
    let rook : Piece = rook_of row.colour in
    let unpinned = castling_unpinned c s asks in
    subst (All (Spares s side)) (sym e)
    (All-two (Spares s side) (row.rook_from, None) (row.rook_to, Some rook) []
    ((λ e. absurd cc), λ h. rook_no_king row.colour side (holds_one s.board row.rook_from rook (king_of side) asks.1 h))
    ((λ e. rook_no_king row.colour side (some_one rook (king_of side) e)), λ h. empty_holds s.board row.rook_to row.rook_to (king_of side) unpinned.1 refl h)
    (All-nil (Spares s side)))

-- what is promoted to is no king
arrives_king : (side c : Colour) (kind : Kind) (promo : Option Kind) → ((k : Kind) → promo ≡ Some k → IsPromotion k) → piece_of side (unwrap_or promo kind) ≡ king_of c → piece_of side kind ≡ king_of c
arrives_king side c before None lawful e = e
arrives_king side c before (Some k) lawful e = absurd ((lawful k refl).1 (ap (λ (x : Piece). x.kind) e))

-- a king that isn't moved stays where it is
pub king_stays : (s : Position) (m : Moved) (side : Colour) (k : ℕ) → IsSetup s → (h : PseudoLegal s m) → piece_of s.turn h.kind ≢ king_of side
    → IsOnlyKing s.board side k → IsOnlyKing (after s m).board side k
king_stays s m side k ok h other only =
    let p = piece_of s.turn h.kind in
    let q = piece_of s.turn (unwrap_or m.promo h.kind) in
    let w = way s m h.kind ok h.goes in
    king_stays_differs s.board (after s m).board (changes s.board m p) k side (after_differs s m ok h)
    (All-two (Spares s side) (m.from, None) (m.to, Some q) (besides s.board m s.turn h.kind)
    ((λ e. absurd cc), (λ here. other (holds_one s.board m.from p (king_of side) h.stands here)))
    ((λ e. other (arrives_king s.turn side h.kind m.promo h.is_move.promotes (some_one q (king_of side) e))), to_no_king s m h.kind side ok w)
    (beside_spares s m h.kind side ok w)) only

-- a king that is moved stands where it arrives
pub king_goes : (s : Position) (m : Moved) (k : ℕ) → IsSetup s → (h : PseudoLegal s m) → h.kind ≡ King → IsOnlyKing s.board s.turn k → IsOnlyKing (after s m).board s.turn m.to
king_goes s m k ok h king only =
    let none = king_unpromoted s.turn m h.kind king h.promotes in
    let now = besides s.board m s.turn h.kind in
    let safe = beside_spares s m h.kind s.turn ok (way s m h.kind ok h.goes) in
    let arrives : piece_of s.turn (unwrap_or m.promo h.kind) ≡ king_of s.turn =
    ap (λ (o : Option Kind). piece_of s.turn (unwrap_or o h.kind)) none ∙ ap (piece_of s.turn) king in
    let D : Piece → Type 0 = λ q. Differs s.board (after s m).board ((m.from, None) ∷ (m.to, Some q) ∷ now) in
    let H : Kind → Type 0 = λ x. Holds s.board m.from (piece_of s.turn x) in
    king_goes_differs s.board (after s m).board m.from m.to k s.turn now (subst D arrives (after_differs s m ok h)) (λ i d lt. (safe i d lt).0) (subst H king h.stands) only

-- each side has its king after a move
kings_after : (s : Position) (m : Moved) → IsSetup s → PseudoLegal s m → HasKings (after s m).board
kings_after s m ok h =
    let own = ok.kings s.turn in
    let other = ok.kings (opponent s.turn) in
    let p = piece_of s.turn h.kind in
    let enemy = king_stays s m (opponent s.turn) other.0 ok h (enemy_no_king p s.turn refl) other.1 in
    elim (king_or_not h.kind) [
      | inl king ↦ both_kings (after s m).board s.turn m.to other.0 (king_goes s m own.0 ok h king own.1) enemy
      | inr none ↦ both_kings (after s m).board s.turn own.0 other.0 (king_stays s m s.turn own.0 ok h (no_king p s.turn none) own.1) enemy
    ]

-- ---- pawns

-- pawns stay off the first and last rank where what arrives does
pub pawns_kept : (old new : Board) (now : List (ℕ × Place)) → Differs old new now → HasNoEdgePawn old
    → All (λ c. (side : Colour) → c.1 ≡ Some (pawn_of side) → (0 < rank c.0) × (rank c.0 < 7)) now → HasNoEdgePawn new
pawns_kept old new now moved before arrives =
    each_place old new now (λ q place. (side : Colour) → place ≡ Some (pawn_of side) → (0 < rank q) × (rank q < 7)) moved arrives (λ q off. before q)

-- a pawn goes one or two ranks forward
pawn_forward : (s : Position) (m : Moved) (kind : Kind) → kind ≡ Pawn → MayGo s m kind → IsForward s.turn 1 m.from m.to ⊎ IsForward s.turn 2 m.from m.to
pawn_forward s m k pawn (inl (reaches, lands)) = inl (pawn_reach s.turn k s.board m.from m.to reaches pawn)
pawn_forward s m k pawn (inr (inl (is, x))) = elim x.forward [ inl one ↦ inl one | inr two ↦ inr two.1 ]
pawn_forward s m k pawn (inr (inr (king, x))) = absurd cc

inside : (side : Colour) (a b : ℕ) → b < 64 → (0 < rank a) × (rank a < 7) → IsForward side 1 a b ⊎ IsForward side 2 a b → rank_for side b ≢ 7 → (0 < rank b) × (rank b < 7)
inside White a b on from (inl one) not_last = (omega arith, omega (arith, not_last))
inside White a b on from (inr two) not_last = (omega arith, omega (arith, not_last))
inside Black a b on from (inl one) not_last = (omega (arith, not_last), omega arith)
inside Black a b on from (inr two) not_last = (omega (arith, not_last), omega arith)

-- what arrives as a pawn isn't on the last rank
pawn_arrives : (s : Position) (m : Moved) (side : Colour) (promo : Option Kind) → IsSetup s → (h : PseudoLegal s m) → m.promo ≡ promo
    → piece_of s.turn (unwrap_or promo h.kind) ≡ pawn_of side → (0 < rank m.to) × (rank m.to < 7)
pawn_arrives s m side (Some k) ok h is e = absurd ((h.is_move.promotes k is).0 (ap (λ (x : Piece). x.kind) e))
pawn_arrives s m side None ok h is e =
    let pawn : h.kind ≡ Pawn = ap (λ (x : Piece). x.kind) e in
    let H : Kind → Type 0 = λ k. Holds s.board m.from (piece_of s.turn k) in
    inside s.turn m.from m.to h.is_move.to_on_board (ok.pawns m.from s.turn (subst H pawn h.stands)) (pawn_forward s m h.kind pawn h.goes)
    (λ last. let some = h.promotes.1 (pawn, last) in cc)

abbrev NoPawn : ℕ × Place → Type 0
NoPawn c = (side : Colour) → c.1 ≢ Some (pawn_of side)

beside_no_pawn : (s : Position) (m : Moved) (kind : Kind) → Way s m kind → All NoPawn (besides s.board m s.turn kind)
beside_no_pawn s m k (alone goes e) = subst (All NoPawn) (sym e) (All-nil NoPawn)
beside_no_pawn s m k (passing pawn takes e) = subst (All NoPawn) (sym e) (All-cons NoPawn (double_stepped s.turn m.to, None) [] (λ side e. cc) (All-nil NoPawn))
beside_no_pawn s m k (castling king c x asks e) =
    let row = castling_row c in
    let rook : Piece = rook_of row.colour in
    let K : Piece → Kind = λ z. z.kind in
    subst (All NoPawn) (sym e)
    (All-two NoPawn (row.rook_from, None) (row.rook_to, Some rook) [] (λ side e. cc) (λ side e. let same = ap K (some_one rook (pawn_of side) e) in cc) (All-nil NoPawn))

pawns_after : (s : Position) (m : Moved) → IsSetup s → PseudoLegal s m → HasNoEdgePawn (after s m).board
pawns_after s m ok h =
    let q = piece_of s.turn (unwrap_or m.promo h.kind) in
    let now = besides s.board m s.turn h.kind in
    let none = beside_no_pawn s m h.kind (way s m h.kind ok h.goes) in
    let F : ℕ × Place → Type 0 = λ c. (side : Colour) → c.1 ≡ Some (pawn_of side) → (0 < rank c.0) × (rank c.0 < 7) in
    pawns_kept s.board (after s m).board (changes s.board m (piece_of s.turn h.kind)) (after_differs s m ok h) ok.pawns
    (All-two F (m.from, None) (m.to, Some q) now
    (λ side e. absurd cc)
    (λ side e. pawn_arrives s m side m.promo ok h refl (some_one q (pawn_of side) e))
    (λ i d lt side e. absurd (none i d lt side e)))

-- ---- the en passant square

-- a pawn goes two ranks
pub record StepsTwo (s : Position) (m : Moved) (kind : Kind) : Type 0 where
  pub pawn : kind ≡ Pawn
  pub pushes : Pushes s m
  pub begins : rank_for s.turn m.from ≡ 1
  pub forward : IsForward s.turn 2 m.from m.to

single : (s : Position) (m : Moved) (kind : Kind) → kind ≡ Pawn → IsForward s.turn 1 m.from m.to → en_passant_after m (piece_of s.turn kind) ≡ None
single s m k pawn forward =
    let E : Kind → Type 0 = λ k. en_passant_after m (piece_of s.turn k) ≡ None in
    subst E (sym pawn) (ep_single s.turn m (step_ranks s.turn 1 m.from m.to forward))

-- no other move crosses a square
pub crosses : (s : Position) (m : Moved) (kind : Kind) → MayGo s m kind
    → (en_passant_after m (piece_of s.turn kind) ≡ None) ⊎ (StepsTwo s m kind × (en_passant_after m (piece_of s.turn kind) ≡ Some ((m.from + m.to) / 2)))
crosses s m kind (inl (reaches, lands)) =
    elim (pawn_or_not kind) [
      | inl pawn ↦ inl (single s m kind pawn (pawn_reach s.turn kind s.board m.from m.to reaches pawn))
      | inr other ↦ inl (ep_other s.turn kind m other)
    ]
crosses s m kind (inr (inl (pawn, x))) =
    elim x.forward [
      | inl one ↦ inl (single s m kind pawn one)
      | inr two ↦
          (let E : Kind → Type 0 = λ k. en_passant_after m (piece_of s.turn k) ≡ Some ((m.from + m.to) / 2) in
          inr (record { pawn = pawn; pushes = x; begins = two.0; forward = two.1 }, subst E (sym pawn) (ep_double s.turn m (step_ranks s.turn 2 m.from m.to two.1))))
    ]
crosses s m kind (inr (inr (king, x))) = inl (ep_other s.turn kind m (λ pawn. cc))

-- a double step passes a square of the rank for it, next before its target
halfway_fits : (side : Colour) (from to halfway : ℕ) → from < 64 → rank_for side from ≡ 1 → file to ≡ file from → file halfway ≡ file from
    → IsForward side 2 from to → IsForward side 1 from halfway
    → OnEnPassantRank (opponent side) halfway × (to ≡ double_stepped (opponent side) halfway) × (halfway ≢ from) × (halfway ≢ to) × (rank_for side to ≢ 7)
halfway_fits White from to halfway on home to_file halfway_file two one = (omega arith, omega arith, (λ same. omega arith), (λ same. omega arith), λ last. omega arith)
halfway_fits Black from to halfway on home to_file halfway_file two one = (omega arith, omega arith, (λ same. omega arith), (λ same. omega arith), λ last. omega arith)

pub opponent_opponent : (c : Colour) → opponent (opponent c) ≡ c
opponent_opponent White = refl
opponent_opponent Black = refl

-- such a pawn alone goes, and stays one
pub two_differs : (s : Position) (m : Moved) → IsSetup s → (h : PseudoLegal s m) → StepsTwo s m h.kind
    → Differs s.board (after s m).board ((m.from, None) ∷ (m.to, Some (piece_of s.turn (unwrap_or m.promo h.kind))) ∷ [])
two_differs s m ok h x =
    let D : List (ℕ × Place) → Type 0 = λ bs. Differs s.board (after s m).board ((m.from, None) ∷ (m.to, Some (piece_of s.turn (unwrap_or m.promo h.kind))) ∷ bs) in
    subst D (beside_straight s.turn h.kind s.board m x.pawn x.pushes.same_file) (after_differs s m ok h)

en_passant_after_holds : (s : Position) (m : Moved) → IsSetup s → (h : PseudoLegal s m) → EnPassantHolds (after s m).board (opponent s.turn) (en_passant_after m (piece_of s.turn h.kind))
en_passant_after_holds s m ok h =
    let E : Option ℕ → Type 0 = λ o. EnPassantHolds (after s m).board (opponent s.turn) o in
    elim (crosses s m h.kind h.goes) [
      | inl none ↦ subst E (sym none) tt
      | inr (x, some) ↦
          (let halfway = (m.from + m.to) / 2 in
          let half = halfway_between s.turn m.from m.to x.pushes.same_file x.forward in
          let fits = halfway_fits s.turn m.from m.to halfway h.is_move.from_on_board x.begins x.pushes.same_file half.1 x.forward half.2 in
          let q = piece_of s.turn (unwrap_or m.promo h.kind) in
          let unnamed = unpromoted s.turn m h.kind h.promotes (λ last. fits.4 last.1) in
          let differs = two_differs s m ok h x in
          let pawn : q ≡ piece_of (opponent (opponent s.turn)) Pawn =
          ap (λ (o : Option Kind). piece_of s.turn (unwrap_or o h.kind)) unnamed ∙ piece_is (piece_of s.turn h.kind) (opponent (opponent s.turn)) Pawn (sym (opponent_opponent s.turn)) x.pawn in
          let P : Piece → Type 0 = λ z. Holds (after s m).board m.to z in
          let there = subst P pawn (arrived s.board (after s m).board m.from m.to q [] differs) in
          subst E (sym some) (
            fits.0,
            (
              differs.others halfway (off_two halfway (m.from, None) (m.to, Some q) fits.2 fits.3) ∙ halfway_empty s m.from m.to h.is_move.from_on_board h.is_move.to_on_board half.0 x.pushes.way,
              holds_at (after s m).board m.to (double_stepped (opponent s.turn) halfway) _ fits.1 there,
            ),
          ))
    ]

-- ---- the setup

-- the setup after a move meets the rules for setups
pub after_is_setup : (s : Position) (m : Moved) → IsSetup s → PseudoLegal s m → IsSetup (after s m)
after_is_setup s m ok h =
    let P : Position → Type 0 = λ t. IsSetup t in
    let p = piece_of s.turn h.kind in
    subst P (sym (after_parts s m p h.stands)) (record {
      places = (after_differs s m ok h).squares;
      kings = kings_after s m ok h;
      pawns = pawns_after s m ok h;
      en_passant = en_passant_after_holds s m ok h;
    })

-- a setup is the one after a legal move exactly where it is so square by square
pub after_is : (s t : Position) (m : Moved) → IsSetup s → PseudoLegal s m → IsAfter s m t ↔ (t ≡ after s m)
after_is s t m ok h =
    let p = piece_of s.turn h.kind in
    let differs = after_differs s m ok h in
    let parts = after_parts s m p h.stands in (
      λ x.
          let same : x.piece ≡ p = holds_one s.board m.from x.piece p x.stands h.stands in
          let D : Piece → Type 0 = λ q. Differs s.board t.board (changes s.board m q) in
          let board : t.board ≡ (after s m).board = differs_one s.board t.board (after s m).board (changes s.board m p) (subst D same x.board) differs in
          let ep : t.ep ≡ en_passant_after m p = x.ep ∙ ap (en_passant_after m) same in
          ap (λ (b : Board). position_of b t.turn t.rights t.ep) board
          ∙ ap (λ (c : Colour). position_of (after s m).board c t.rights t.ep) x.turn
          ∙ ap (λ r. position_of (after s m).board (opponent s.turn) r t.ep) x.rights
          ∙ ap (λ (o : Option ℕ). position_of (after s m).board (opponent s.turn) (rights_after s.rights m) o) ep
          ∙ sym parts,
      λ same.
          let A : Position → Type 0 = λ u. IsAfter s m u in
          subst A (sym same) (record {
            piece = p;
            stands = h.stands;
            board = differs;
            turn = ap (λ (u : Position). u.turn) parts;
            rights = ap (λ (u : Position). u.rights) parts;
            ep = ap (λ (u : Position). u.ep) parts;
          }),
    )
