-- What changes besides by a move, and the rights and the en passant square after it.
use Rattle.std.proofs.Common.{◌≡◌, ◌≢◌, ℕ, ◌+◌, ◌*◌, ◌/◌, ◌≤◌, refl, arith, inl, inr, sym, ap, subst, ◌∙◌, Some, None, [], ◌∷◌, List, length, Bool, true, false, not, ◌&&◌, ◌||◌, eqb}
use Rattle.std.proofs.lemmas.List.Elements.{All-nil, All-cons}
use Rattle.std.proofs.lemmas.Bool.{eq-eqb}
use Rattle.std.proofs.lemmas.Bool.Decides.{eqb_tells}
use Rattle.pb_board.specs.declared.piece.Colour.{Colour}
use Rattle.pb_board.specs.declared.piece.Kind.{Kind}
use Rattle.pb_board.specs.declared.piece.Kind.TheVariants.{Pawn, Knight, Bishop, Rook, Queen, King}
use Rattle.pb_board.specs.declared.piece.Piece.{Piece}
use Rattle.pb_board.specs.declared.setup.Rights.{Rights}
use Rattle.pb_board.specs.Piece.{king_of, piece_of, rook_of}
use Rattle.pb_board.specs.Board.{Board, Place, file, rank, at, Holds, IsForward}
use Rattle.pb_board.specs.Position.{Position, IsSetup, double_stepped}
use Rattle.pb_board.specs.declared.castling.Castling.{Castling}
use Rattle.pb_board.specs.declared.castling.Castling.TheVariants.{WhiteShort, WhiteLong, BlackShort, BlackLong}
use Rattle.pb_moves.specs.Attacks.{files_apart, ranks_apart}
use Rattle.pb_moves.specs.Moved.{Moved, moved_of}
use Rattle.pb_board.specs.Castling.{CastlingRow, castling_row}
use Rattle.pb_moves.specs.Attackers.{In}
use Rattle.pb_moves.specs.Successor.{Differs}
use Rattle.pb_moves.specs.Successor.{besides, en_passant_after, rights_after, touches}
use Rattle.pb_moves.proofs.MovedPiece.{put, puts}
use Rattle.pb_moves.proofs.Castlings.{IsRow, near_is_none, rook_goes}
use Rattle.pb_moves.proofs.Differing.{All-two, carried_put, differs_put, moved_board, off_two}
use Rattle.pb_moves.proofs.Unique.{step_ranks, en_passant_at}
use Rattle.pb_moves.proofs.Kings.{gone_is_double_stepped}

-- a board on which a king and a rook were moved
pub castled_writes : (row : CastlingRow) (old : Board) → IsRow row → length old ≡ 64
    → Differs old (puts old ((row.king_from, None) ∷ (row.king_to, Some (king_of row.colour)) ∷ rook_goes row))
    ((row.king_from, None) ∷ (row.king_to, Some (king_of row.colour)) ∷ rook_goes row)
castled_writes row old is full =
    let king : Piece = king_of row.colour in
    let rook : Piece = rook_of row.colour in
    let a : ℕ × Place = (row.king_from, None) in
    let b : ℕ × Place = (row.king_to, Some king) in
    let c : ℕ × Place = (row.rook_from, None) in
    let moved = moved_board old row.king_from row.king_to king in
    let x = carried_put old row.king_from row.king_to king full is.king_from is.king_to is.king_moves in
    let y = differs_put old moved (a ∷ b ∷ []) row.rook_from None x is.rook_from (off_two row.rook_from a b (λ e. is.from_rook (sym e)) (λ e. is.to_rook (sym e))) in
    let O : ℕ × Place → Type 0 = λ q. row.rook_to ≢ q.0 in
    let off = All-two O a b (c ∷ []) (λ e. is.from_rook_to (sym e)) (λ e. is.to_rook_to (sym e)) (All-cons O c [] (λ e. is.rook_moves (sym e)) (All-nil O)) in
    differs_put old (put moved row.rook_from None) (a ∷ b ∷ c ∷ []) row.rook_to (Some rook) y is.rook_to off

-- ---- what changes besides the piece's own two squares

pub test_fails : (a b : ℕ) → a ≢ b → eqb a b ≡ false
test_fails a b ne = elim (eqb_tells a b) [ inl e ↦ absurd (ne e.1) | inr e ↦ e.0 ]

pub beside_piece : (side : Colour) (k : Kind) (board : Board) (m : Moved) → k ≢ Pawn → (k ≡ King → files_apart m.from m.to ≤ 1) → besides board m side k ≡ []
beside_piece side Pawn board m no_pawn near = absurd (no_pawn refl)
beside_piece side Knight board m no_pawn near = refl
beside_piece side Bishop board m no_pawn near = refl
beside_piece side Rook board m no_pawn near = refl
beside_piece side Queen board m no_pawn near = refl
beside_piece side King board m no_pawn near = let e = near_is_none side m (near refl) in rw e refl

pub beside_straight : (side : Colour) (k : Kind) (board : Board) (m : Moved) → k ≡ Pawn → file m.to ≡ file m.from → besides board m side k ≡ []
beside_straight side Pawn board m pawn same = let e = eq-eqb (file m.to) (file m.from) same in rw e refl
beside_straight side k board m pawn same = absurd (cc)

pub beside_taking : (side : Colour) (k : Kind) (board : Board) (m : Moved) (p : Piece) → k ≡ Pawn → Holds board m.to p → besides board m side k ≡ []
beside_taking side Pawn board m p pawn taken =
    elim (eqb_tells (file m.to) (file m.from)) [
      | inl same ↦ rw same.0 refl
      | inr other ↦ rw (other.0, taken) refl
    ]
beside_taking side k board m p pawn taken = absurd (cc)

beside_passing : (side : Colour) (k : Kind) (board : Board) (m : Moved) → k ≡ Pawn → file m.to ≢ file m.from → at board m.to ≡ None
    → besides board m side k ≡ (8 * rank m.from + file m.to, None) ∷ []
beside_passing side Pawn board m pawn other unpinned =
    elim (eqb_tells (file m.to) (file m.from)) [
      | inl same ↦ absurd (other same.1)
      | inr e ↦ rw (e.0, unpinned) refl
    ]
beside_passing side k board m pawn other unpinned = absurd (cc)

rook_at : (c : Castling) (board : Board) → besides board (moved_of (castling_row c).king_from (castling_row c).king_to None) (castling_row c).colour King
    ≡ ((castling_row c).rook_from, None) ∷ ((castling_row c).rook_to, at board (castling_row c).rook_from) ∷ []
rook_at WhiteShort board = refl
rook_at WhiteLong board = refl
rook_at BlackShort board = refl
rook_at BlackLong board = refl

-- by the table
pub beside_castling : (c : Castling) (side : Colour) (board : Board) (m : Moved) (k : Kind) → k ≡ King → side ≡ (castling_row c).colour → m.from ≡ (castling_row c).king_from
    → m.to ≡ (castling_row c).king_to → Holds board (castling_row c).rook_from (rook_of (castling_row c).colour) → besides board m side k ≡ rook_goes (castling_row c)
beside_castling c side board m k king own from to rook =
    let row = castling_row c in
    ap (besides board m side) king
    ∙ ap (λ (x : Colour). besides board m x King) own
    ∙ ap (λ (a : ℕ). besides board (moved_of a m.to None) row.colour King) from
    ∙ ap (λ (b : ℕ). besides board (moved_of row.king_from b None) row.colour King) to
    ∙ rook_at c board
    ∙ ap (λ (place : Place). let goes : List (ℕ × Place) = (row.rook_from, None) ∷ (row.rook_to, place) ∷ [] in goes) rook

-- en passant, the pawn goes that made the double step
pub taken_is : (s : Position) (m : Moved) (side : Colour) (k : Kind) → IsSetup s → k ≡ Pawn → files_apart m.from m.to ≡ 1 → IsForward s.turn 1 m.from m.to → s.ep ≡ Some m.to
    → besides s.board m side k ≡ (double_stepped s.turn m.to, None) ∷ []
taken_is s m side k ok pawn files forward square =
    let gone = 8 * rank m.from + file m.to in
    let ranks : ranks_apart m.from m.to ≡ 1 = step_ranks s.turn 1 m.from m.to forward in
    let same : gone ≡ double_stepped s.turn m.to = gone_is_double_stepped s.turn m.from m.to gone forward (omega arith) (omega arith) in
    beside_passing side k s.board m pawn (λ e. omega arith) (en_passant_at s m.to ok square).1.0
    ∙ ap (λ (g : ℕ). let goes : List (ℕ × Place) = (g, None) ∷ [] in goes) same

-- the square stepped over, where it is one
pub ep_other : (side : Colour) (k : Kind) (m : Moved) → k ≢ Pawn → en_passant_after m (piece_of side k) ≡ None
ep_other side Pawn m other = absurd (other refl)
ep_other side Knight m other = refl
ep_other side Bishop m other = refl
ep_other side Rook m other = refl
ep_other side Queen m other = refl
ep_other side King m other = refl

pub ep_single : (side : Colour) (m : Moved) → ranks_apart m.from m.to ≡ 1 → en_passant_after m (piece_of side Pawn) ≡ None
ep_single side m one =
    elim (eqb_tells (ranks_apart m.from m.to) 2) [
      | inl two ↦ absurd (let e = two.1 in omega arith)
      | inr other ↦ rw other.0 refl
    ]

pub ep_double : (side : Colour) (m : Moved) → ranks_apart m.from m.to ≡ 2 → en_passant_after m (piece_of side Pawn) ≡ Some ((m.from + m.to) / 2)
ep_double side m two = let e = eq-eqb (ranks_apart m.from m.to) 2 two in rw e refl

-- where no home is touched each right is kept as it is
all_but : (flag : Bool) → (flag && not (false || false || (false || false))) ≡ flag
all_but true = refl
all_but false = refl

-- a square on which no king and no rook begins that may castle
abbrev Elsewhere : ℕ → Type 0
Elsewhere q = (c : Castling) → (q ≢ (castling_row c).king_from) × (q ≢ (castling_row c).rook_from)

-- those squares as a number
abbrev homes : ℕ
homes = 10448351135499550865

off_home : (q home : ℕ) → ¬ In homes q → In homes home → q ≢ home
off_home q home out is e = out (subst (λ (r : ℕ). In homes r) (sym e) is)

elsewhere : (q : ℕ) → ¬ In homes q → Elsewhere q
elsewhere q out WhiteShort = (off_home q 4 out refl, off_home q 7 out refl)
elsewhere q out WhiteLong = (off_home q 4 out refl, off_home q 0 out refl)
elsewhere q out BlackShort = (off_home q 60 out refl, off_home q 63 out refl)
elsewhere q out BlackLong = (off_home q 60 out refl, off_home q 56 out refl)

right_elsewhere : (flag : Bool) (m : Moved) (c : Castling) → Elsewhere m.from → Elsewhere m.to
    → (flag && not (touches m (castling_row c).king_from (castling_row c).rook_from)) ≡ flag
right_elsewhere flag m c f t =
    let row = castling_row c in
    rw (
      test_fails m.from row.king_from (f c).0,
      test_fails m.to row.king_from (t c).0,
      test_fails m.from row.rook_from (f c).1,
      test_fails m.to row.rook_from (t c).1,
    ) (all_but flag)

pub rights_elsewhere : (r : Rights) (m : Moved) → ¬ In homes m.from → ¬ In homes m.to → rights_after r m ≡ r
rights_elsewhere r m off_from off_to =
    let f = elsewhere m.from off_from in
    let t = elsewhere m.to off_to in
    rw (
      right_elsewhere r.white_short m WhiteShort f t,
      right_elsewhere r.white_long m WhiteLong f t,
      right_elsewhere r.black_short m BlackShort f t,
      right_elsewhere r.black_long m BlackLong f t,
    ) refl
