-- The ways in which a piece of the side to move goes: alone, or with another one; and the board and
-- the setup after that.
use Rattle.std.proofs.Common.{◌≡◌, ◌≢◌, ℕ, ◌+◌, ◌*◌, ◌⊎◌, refl, arith, inl, inr, sym, ap, subst, ◌∙◌, Option, Some, None, List, [], ◌∷◌}
use Rattle.std.specs.Prelude.{IsSome, unwrap_or}
use Rattle.std.specs.Option.{option_map_or}
use Rattle.pb_board.specs.declared.piece.Colour.{Colour}
use Rattle.pb_board.specs.declared.piece.Kind.{Kind}
use Rattle.pb_board.specs.declared.piece.Kind.TheVariants.{Pawn, Knight, Bishop, Rook, Queen, King}
use Rattle.pb_board.specs.declared.piece.Piece.{Piece}
use Rattle.pb_board.specs.declared.castling.Castling.{Castling}
use Rattle.pb_board.specs.Piece.{opponent, king_of, piece_of}
use Rattle.pb_board.specs.Board.{Board, Place, file, rank, rank_for, Holds, IsEmpty, IsForward}
use Rattle.pb_board.specs.Position.{Position, IsSetup, double_stepped, position_of}
use Rattle.pb_board.specs.Castling.{castling_row}
use Rattle.pb_moves.specs.Attacks.{Attacks, files_apart, ranks_apart}
use Rattle.pb_moves.specs.Candidate.{GoesAlone, GoesInTwo, IsOwn, Promotes, Steps, TakesEnPassant}
use Rattle.pb_moves.specs.Legal.{IsCapturable, MayGo, MayLand, PseudoLegal}
use Rattle.pb_moves.specs.Moved.{Moved, IsMove}
use Rattle.pb_moves.specs.Successor.{Differs, after, besides, changes, en_passant_after, rights_after}
use Rattle.pb_moves.proofs.Castlings.{Asks, IsByRow, asked_by, by_row, rook_goes, rows}
use Rattle.pb_moves.proofs.Differing.{carried_past_put, carried_put}
use Rattle.pb_moves.proofs.Kings.{gone_is_double_stepped, holds_one, pawn_reach}
use Rattle.pb_moves.proofs.MovedPiece.{carried, puts}
use Rattle.pb_moves.proofs.Successors.{beside_castling, beside_piece, beside_straight, beside_taking, castled_writes, taken_is}
use Rattle.pb_moves.proofs.Unique.{king_near, pawn_files, piece_is, step_ranks}

-- ---- the setup after the move of the piece that stands on `from`

abbrev made : Position → Moved → Piece → Position
made s m p = position_of (carried s.board m p) (opponent s.turn) (rights_after s.rights m) (en_passant_after m p)

after_is_made : (s : Position) (m : Moved) (p : Piece) → Holds s.board m.from p → after s m ≡ made s m p
unfolding after
after_is_made s m p stands = ap (λ (place : Place). option_map_or (λ q. made s m q) place s) stands

pub carried_is : (s : Position) (m : Moved) (p : Piece) → Holds s.board m.from p → (after s m).board ≡ carried s.board m p
carried_is s m p stands = ap (λ (t : Position). t.board) (after_is_made s m p stands)

-- its parts
pub after_parts : (s : Position) (m : Moved) (p : Piece) → Holds s.board m.from p
    → after s m ≡ position_of (after s m).board (opponent s.turn) (rights_after s.rights m) (en_passant_after m p)
after_parts s m p stands =
    let B : Board → Position = λ b. position_of b (opponent s.turn) (rights_after s.rights m) (en_passant_after m p) in
    after_is_made s m p stands ∙ ap B (sym (carried_is s m p stands))

-- ---- where a piece may land

lands_quiet : (s : Position) (kind : Kind) (q : ℕ) → kind ≢ Pawn → IsEmpty s.board q → MayLand s kind q
lands_quiet s Pawn q other h = absurd (other refl)
lands_quiet s Knight q other h = inr h
lands_quiet s Bishop q other h = inr h
lands_quiet s Rook q other h = inr h
lands_quiet s Queen q other h = inr h
lands_quiet s King q other h = inr h

lands_taking : (s : Position) (kind : Kind) (q : ℕ) → IsCapturable s q → MayLand s kind q
lands_taking s Pawn q h = inl h
lands_taking s Knight q h = inl h
lands_taking s Bishop q h = inl h
lands_taking s Rook q h = inl h
lands_taking s Queen q h = inl h
lands_taking s King q h = inl h

-- what it says of the square: an enemy stands there, or a pawn passes, or another piece may rest
lands_as : (s : Position) (kind : Kind) (q : ℕ) → MayLand s kind q
    → IsCapturable s q ⊎ (((kind ≡ Pawn) × (s.ep ≡ Some q)) ⊎ ((kind ≢ Pawn) × IsEmpty s.board q))
lands_as s Pawn q (inl h) = inl h
lands_as s Pawn q (inr h) = inr (inl (refl, h))
lands_as s Knight q (inl h) = inl h
lands_as s Knight q (inr h) = inr (inr ((λ pawn. cc), h))
lands_as s Bishop q (inl h) = inl h
lands_as s Bishop q (inr h) = inr (inr ((λ pawn. cc), h))
lands_as s Rook q (inl h) = inl h
lands_as s Rook q (inr h) = inr (inr ((λ pawn. cc), h))
lands_as s Queen q (inl h) = inl h
lands_as s Queen q (inr h) = inr (inr ((λ pawn. cc), h))
lands_as s King q (inl h) = inl h
lands_as s King q (inr h) = inr (inr ((λ pawn. cc), h))

pub pawn_or_not : (k : Kind) → (k ≡ Pawn) ⊎ (k ≢ Pawn)
pawn_or_not Pawn = inl refl
pawn_or_not k = inr (λ e. cc)

-- ---- alone, or in two

pub alone_or_two : (s : Position) (m : Moved) (kind : Kind) → MayGo s m kind → GoesAlone s m (piece_of s.turn kind) ⊎ GoesInTwo s m kind
alone_or_two s m k (inl (reaches, lands)) =
    elim (lands_as s k m.to lands) [
      | inl enemy ↦ inl (inr enemy, inl (reaches, λ pawn empty. let stands = enemy.2 in cc))
      | inr (inl (pawn, square)) ↦
          (let A : Kind → Type 0 = λ k. Attacks s.turn k s.board m.from m.to in
          inr (inl (pawn, (square, subst A pawn reaches))))
      | inr (inr (other, empty)) ↦ inl (inl empty, inl (reaches, λ pawn. absurd (other pawn)))
    ]
alone_or_two s m k (inr (inl (pawn, x))) = inl (inl x.empty, inr (pawn, (x.same_file, x.forward), x.way, x.empty))
alone_or_two s m k (inr (inr (king, x))) = inr (inr (king, x))

pub alone_goes : (s : Position) (m : Moved) (p : Piece) → p.colour ≡ s.turn → GoesAlone s m p → MayGo s m p.kind
alone_goes s m p own (target, inl (reaches, takes)) =
    let A : Colour → Type 0 = λ side. Attacks side p.kind s.board m.from m.to in
    inl (
      subst A own reaches,
      elim target [
        | inl empty ↦ lands_quiet s p.kind m.to (λ pawn. takes pawn empty) empty
        | inr enemy ↦ lands_taking s p.kind m.to enemy
      ],
    )
alone_goes s m p own (target, inr (pawn, goes, way, empty)) =
    let steps = subst (λ (side : Colour). Steps side m.from m.to) own goes in
    inr (inl (pawn, record { same_file = steps.0; forward = steps.1; way = way; empty = empty }))

pub two_goes : (s : Position) (m : Moved) (kind : Kind) → GoesInTwo s m kind → MayGo s m kind
two_goes s m Pawn (inl (pawn, takes)) = inl (takes.1, inr takes.0)
two_goes s m k (inl (pawn, takes)) = absurd cc
two_goes s m k (inr x) = inr (inr x)

pub alone_besides : (s : Position) (m : Moved) (p : Piece) → GoesAlone s m p → besides s.board m p.colour p.kind ≡ []
alone_besides s m p (target, inl (reaches, takes)) =
    elim (pawn_or_not p.kind) [
      | inl pawn ↦ elim target [
        | inl empty ↦ absurd (takes pawn empty)
        | inr enemy ↦ beside_taking p.colour p.kind s.board m _ pawn enemy.2
      ]
      | inr other ↦ beside_piece p.colour p.kind s.board m other (king_near p.colour p.kind s.board m.from m.to reaches)
    ]
alone_besides s m p (target, inr (pawn, goes, way, empty)) = beside_straight p.colour p.kind s.board m pawn goes.0

-- the pawn goes one file aside and one rank forward, to the square behind the one that it takes
pub record Passes (s : Position) (m : Moved) : Type 0 where
  pub forward : IsForward s.turn 1 m.from m.to
  pub files : files_apart m.from m.to ≡ 1
  pub ranks : ranks_apart m.from m.to ≡ 1
  pub gone : 8 * rank m.from + file m.to ≡ double_stepped s.turn m.to

pub passes : (s : Position) (m : Moved) → TakesEnPassant s m → Passes s m
passes s m takes =
    let forward = pawn_reach s.turn Pawn s.board m.from m.to takes.1 refl in
    let ranks : ranks_apart m.from m.to ≡ 1 = step_ranks s.turn 1 m.from m.to forward in
    record {
      forward = forward;
      files = pawn_files s.turn Pawn s.board m.from m.to takes.1 refl;
      ranks = ranks;
      gone = gone_is_double_stepped s.turn m.from m.to (8 * rank m.from + file m.to) forward (omega arith) (omega arith);
    }

-- a piece goes so, with what changes besides
pub data Way (s : Position) (m : Moved) (kind : Kind) : Type 0 where
  alone : GoesAlone s m (piece_of s.turn kind) → besides s.board m s.turn kind ≡ [] → Way s m kind
  passing : kind ≡ Pawn → TakesEnPassant s m → besides s.board m s.turn kind ≡ (double_stepped s.turn m.to, None) ∷ [] → Way s m kind
  castling : kind ≡ King → (c : Castling) → IsByRow s.turn m.from m.to c → Asks (castling_row c) s
      → besides s.board m s.turn kind ≡ rook_goes (castling_row c) → Way s m kind

pub way : (s : Position) (m : Moved) (kind : Kind) → IsSetup s → MayGo s m kind → Way s m kind
way s m kind ok goes =
    elim (alone_or_two s m kind goes) [
      | inl x ↦ alone x (alone_besides s m (piece_of s.turn kind) x)
      | inr (inl (pawn, takes)) ↦
          (let is = passes s m takes in
          passing pawn takes (taken_is s m s.turn kind ok pawn is.files is.forward takes.0))
      | inr (inr (king, x)) ↦
          (let found = by_row s.turn m x.goes in
          let is = found.1 in
          let asks = asked_by found.0 s m is x in
          castling king found.0 is asks (beside_castling found.0 s.turn s.board m kind king is.side_is is.from_is is.to_is asks.1))
    ]

-- ---- promotions

-- only a pawn on the last rank is promoted
pub unpromoted : (side : Colour) (m : Moved) (kind : Kind) → Promotes side m kind → ¬ ((kind ≡ Pawn) × (rank_for side m.to ≡ 7)) → m.promo ≡ None
unpromoted side m k h other = none m.promo refl
  where
    none : (o : Option Kind) → m.promo ≡ o → m.promo ≡ None
    none None e = e
    none (Some k) e = let P : Option Kind → Type 0 = λ x. IsSome x in absurd (other (h.0 (subst P (sym e) refl)))

pub king_unpromoted : (side : Colour) (m : Moved) (kind : Kind) → kind ≡ King → Promotes side m kind → m.promo ≡ None
king_unpromoted side m kind king h = unpromoted side m kind h (λ last. let pawn = last.0 in cc)

-- ---- the board after the move

module _ (s : Position) (m : Moved) (kind : Kind) (ok : IsSetup s) (is : IsMove m) where
  abbrev becoming : Piece
  becoming = piece_of s.turn (unwrap_or m.promo kind)

  abbrev named : List (ℕ × Place) → List (ℕ × Place)
  named bs = (m.from, None) ∷ (m.to, Some becoming) ∷ bs

  puts_differ : (bs : List (ℕ × Place)) → besides s.board m s.turn kind ≡ bs → Differs s.board (puts s.board (named bs)) (named bs)
      → Differs s.board (carried s.board m (piece_of s.turn kind)) (changes s.board m (piece_of s.turn kind))
  puts_differ bs e differs = let D : List (ℕ × Place) → Type 0 = λ xs. Differs s.board (puts s.board (named xs)) (named xs) in subst D (sym e) differs

  way_differs : Promotes s.turn m kind → Way s m kind → Differs s.board (carried s.board m (piece_of s.turn kind)) (changes s.board m (piece_of s.turn kind))
  way_differs promotes (alone goes e) = puts_differ [] e (carried_put s.board m.from m.to becoming ok.places is.from_on_board is.to_on_board is.moves)
  way_differs promotes (passing pawn takes e) =
      let x = passes s m takes in
      let gone = 8 * rank m.from + file m.to in
      let files : files_apart m.from m.to ≡ 1 = x.files in
      let ranks : ranks_apart m.from m.to ≡ 1 = x.ranks in
      let on_from = is.from_on_board in
      let D : ℕ → Type 0 = λ g. Differs s.board (puts s.board (named ((g, None) ∷ []))) (named ((g, None) ∷ [])) in
      puts_differ ((double_stepped s.turn m.to, None) ∷ []) e
      (subst D x.gone (carried_past_put s.board m.from m.to gone becoming ok.places on_from is.to_on_board (omega arith) is.moves (λ e. omega arith) (λ e. omega arith)))
  way_differs promotes (castling king c x asks e) =
      let row = castling_row c in
      let none = king_unpromoted s.turn m kind king promotes in
      let arrives : becoming ≡ king_of row.colour =
      ap (λ (o : Option Kind). piece_of s.turn (unwrap_or o kind)) none ∙ piece_is (piece_of s.turn kind) row.colour King x.side_is king in
      let D : ℕ → ℕ → Piece → Type 0 = λ a b q. let now : List (ℕ × Place) = (a, None) ∷ (b, Some q) ∷ rook_goes row in Differs s.board (puts s.board now) now in
      let one = castled_writes row s.board (rows c) ok.places in
      let two = subst (λ (a : ℕ). D a row.king_to (king_of row.colour)) (sym x.from_is) one in
      let three = subst (λ (b : ℕ). D m.from b (king_of row.colour)) (sym x.to_is) two in
      puts_differ (rook_goes row) e (subst (λ (q : Piece). D m.from m.to q) (sym arrives) three)

-- it differs by what changes, square by square
pub after_differs : (s : Position) (m : Moved) → IsSetup s → (h : PseudoLegal s m) → Differs s.board (after s m).board (changes s.board m (piece_of s.turn h.kind))
after_differs s m ok h =
    let p = piece_of s.turn h.kind in
    let D : Board → Type 0 = λ b. Differs s.board b (changes s.board m p) in
    subst D (sym (carried_is s m p h.stands)) (way_differs s m h.kind ok h.is_move h.promotes (way s m h.kind ok h.goes))

-- ---- the piece that goes

pub own_kind : (s : Position) (q : ℕ) (p : Piece) → IsOwn s q p → Holds s.board q (piece_of s.turn p.kind)
own_kind s q p own = let H : Piece → Type 0 = λ x. Holds s.board q x in subst H (piece_is p s.turn p.kind own.own refl) own.stands

pub own_is : (s : Position) (m : Moved) (p : Piece) (h : PseudoLegal s m) → Holds s.board m.from p → p ≡ piece_of s.turn h.kind
own_is s m p h stands = holds_one s.board m.from p (piece_of s.turn h.kind) stands h.stands

pub kind_is : (s : Position) (m : Moved) (p : Piece) (h : PseudoLegal s m) → Holds s.board m.from p → p.kind ≡ h.kind
kind_is s m p h stands = ap (λ (x : Piece). x.kind) (own_is s m p h stands)

-- what it does is told by its kind
pub own_goes : (s : Position) (m : Moved) (p : Piece) → IsOwn s m.from p → PseudoLegal s m → GoesAlone s m p ⊎ GoesInTwo s m p.kind
own_goes s m p own h =
    let G : Piece → Type 0 = λ x. GoesAlone s m x ⊎ GoesInTwo s m x.kind in
    subst G (sym (own_is s m p h own.stands)) (alone_or_two s m h.kind h.goes)

pub own_promotes : (s : Position) (m : Moved) (p : Piece) → IsOwn s m.from p → PseudoLegal s m → Promotes p.colour m p.kind
own_promotes s m p own h = let P : Piece → Type 0 = λ x. Promotes x.colour m x.kind in subst P (sym (own_is s m p h own.stands)) h.promotes

pub pseudo_legal : (s : Position) (m : Moved) (p : Piece) → IsOwn s m.from p → IsMove m → MayGo s m p.kind → Promotes s.turn m p.kind → PseudoLegal s m
pseudo_legal s m p own is goes promotes = record { is_move = is; kind = p.kind; stands = own_kind s m.from p own; goes = goes; promotes = promotes }
