-- Move codes can be taken apart again.
use Rattle.std.proofs.Common.{◌≡◌, ◌≢◌, ◌≤◌, ◌<◌, ◌+◌, ◌*◌, ◌/◌, ◌%◌, ◌&&◌, ℕ, Bool, true, false, Option, Some, None, refl, inl, inr, sym, ◌∙◌, ap, arith, cond, subst, ◌==◌}
use Rattle.std.specs.Option.{SomeIff, ForSome, option_map_or}
use Rattle.std.proofs.lemmas.Bool.{eq-eqb}
use Rattle.pb_board.specs.declared.piece.Colour.{Colour}
use Rattle.pb_board.specs.declared.piece.Kind.{Kind}
use Rattle.pb_board.specs.declared.piece.Kind.TheVariants.{Pawn, Knight, Bishop, Rook, Queen, King}
use Rattle.pb_board.specs.declared.piece.Piece.{Piece}
use Rattle.pb_board.specs.Position.{IsSetup, Position}
use Rattle.pb_board.specs.Board.{Place, at, is_piece}
use Rattle.pb_board.proofs.PieceTests.{is_piece-is}
use Rattle.pb_board.specs.Piece.{colour_number, kind_number, king_of, piece_of}
use Rattle.pb_board.specs.declared.castling.Castling.{Castling}
use Rattle.pb_board.specs.Castling.{castling_from_home, castling_row}
use Rattle.pb_moves.specs.Attacks.{Pattern, files_apart, ranks_apart}
use Rattle.pb_moves.specs.Moved.{Moved, IsPromotion, moved_of, promotion_number, promotion_of}
use Rattle.pb_moves.specs.Packed.{promotion_back}
use Rattle.pb_moves.specs.Legal.{Legal, MayGo}
use Rattle.pb_moves.specs.Successor.{is_castling, rook_home}
use Rattle.pb_moves.proofs.Castlings.{by_row, class_of_castling, home_found, home_is, home_is_far, rook_home_is, rows}
use Rattle.pb_poly.specs.Code.{HasCode, encoded_to}
use Rattle.pb_poly.specs.Decoding.{king_or, reached}

-- a king goes two files at most
pub king_pattern : (k : Kind) (files ranks : ℕ) → Pattern k files ranks → k ≡ King → files ≤ 1
king_pattern King files ranks h king = omega (arith, h)
king_pattern k files ranks h king = absurd (cc)

king_files : (s : Position) (m : Moved) (k : Kind) → MayGo s m k → k ≡ King → files_apart m.from m.to ≤ 2
king_files s m k (inl (attacks, lands)) king = omega (arith, king_pattern k (files_apart m.from m.to) (ranks_apart m.from m.to) attacks.0 king)
king_files s m k (inr (inl (pawn, x))) king = absurd (cc)
king_files s m k (inr (inr (is, x))) king =
    let row = by_row s.turn m x.goes in omega (arith, class_of_castling row.0 m.from m.to row.1.from_is row.1.to_is)

king_kind : (p : Piece) (side : Colour) (content : Place) → content ≡ Some p → is_piece (king_of side) content ≡ true → p.kind ≡ King
king_kind p side content stands king =
    let there : content ≡ Some (king_of side) = is_piece-is (king_of side) content king in
    let K : Piece → Kind = λ z. z.kind in
    let same : p ≡ king_of side = cc in
    ap K same

-- ---- codes taken apart

-- a king that goes two files at most doesn't go to where a rook begins
no_rook_square : (side : Colour) (from to : ℕ) (found : Option Castling) → castling_from_home from to ≡ found → files_apart from to ≤ 2 → king_or side to found ≡ to
no_rook_square side from to None is near = refl
no_rook_square side from to (Some c) is near =
    let home = home_found from to c is in
    absurd (let far = home_is_far c from to home.0 home.1 in omega arith)

-- the king castles by its own move alone, so the code's square gives back the one that the move
-- reaches
back_if : (s : Position) (m : Moved) (king goes : Bool) → is_castling s.turn m ≡ goes → (king ≡ true → files_apart m.from m.to ≤ 2)
    → (let target = cond (king && goes) (rook_home m) m.to in cond king (king_or s.turn target (castling_from_home m.from target)) target) ≡ m.to
back_if s m false goes is near = refl
back_if s m true false is near = no_rook_square s.turn m.from m.to (castling_from_home m.from m.to) refl (near refl)
back_if s m true true is near =
    let found = by_row s.turn m is in
    let c = found.0 in
    let x = found.1 in
    let row = castling_row c in
    let own : (colour_number row.colour == colour_number s.turn) ≡ true = eq-eqb (colour_number row.colour) (colour_number s.turn) (ap colour_number (sym x.side_is)) in
    ap (λ (n : ℕ). king_or s.turn n (castling_from_home m.from n)) (rook_home_is s.turn m c x)
    ∙ ap (king_or s.turn row.rook_from) (home_is c m.from x.from_is)
    ∙ ap (λ o. cond o row.king_to row.rook_from) own
    ∙ sym x.to_is

reached_back : (s : Position) (m : Moved) → Legal s m → reached s m.from (encoded_to s m) ≡ m.to
reached_back s m legal =
    let moves = legal.moves in
    back_if s m (is_piece (king_of s.turn) (at s.board m.from)) (is_castling s.turn m) refl
    (λ king. king_files s m moves.kind moves.goes (king_kind (piece_of s.turn moves.kind) s.turn (at s.board m.from) moves.stands king))

promotion_is : (o : Option Kind) → ((k : Kind) → o ≡ Some k → IsPromotion k) → option_map_or kind_number o 0 ≡ promotion_number o
promotion_is None lawful = refl
promotion_is (Some Pawn) lawful = refl
promotion_is (Some Knight) lawful = refl
promotion_is (Some Bishop) lawful = refl
promotion_is (Some Rook) lawful = refl
promotion_is (Some Queen) lawful = refl
promotion_is (Some King) lawful = absurd ((lawful King refl).1 refl)

named_on_board : (side : Colour) (m : Moved) (king goes : Bool) → is_castling side m ≡ goes → m.to < 64 → cond (king && goes) (rook_home m) m.to < 64
named_on_board side m false goes is near = near
named_on_board side m true false is near = near
named_on_board side m true true is near =
    let found = by_row side m is in
    subst (λ (q : ℕ). q < 64) (sym (rook_home_is side m found.0 found.1)) (rows found.0).rook_from

pub encoded_on_board : (s : Position) (m : Moved) → m.to < 64 → encoded_to s m < 64
encoded_on_board s m near = named_on_board s.turn m (is_piece (king_of s.turn) (at s.board m.from)) (is_castling s.turn m) refl near

-- the three parts of a code
apart_again : (to from promo number : ℕ) → to < 64 → from < 64 → to % 8 + 8 * (to / 8) + 64 * (from % 8) + 512 * (from / 8) + 4096 * promo ≡ number
    → (number % 64 ≡ to) × ((number / 64) % 64 ≡ from) × (number / 4096 ≡ promo)
apart_again to from promo number low high is =
    let to_is : to % 8 + 8 * (to / 8) ≡ to = omega arith in
    let from_is : 64 * (from % 8) + 512 * (from / 8) ≡ 64 * from = omega arith in
    let is : number ≡ to + 64 * from + 4096 * promo = omega arith in
    let rest : number / 64 ≡ from + 64 * promo = omega arith in
    (omega arith, omega arith, omega arith)

pub parts : (s : Position) (m : Moved) (number : ℕ) → HasCode s m number
    → (m.from ≡ (number / 64) % 64) × (m.to ≡ reached s ((number / 64) % 64) (number % 64)) × (m.promo ≡ promotion_of (number / 4096))
parts s m number has =
    let p = apart_again (encoded_to s m) m.from (option_map_or kind_number m.promo 0) number (encoded_on_board s m has.legal.moves.is_move.to_on_board) has.legal.moves.is_move.from_on_board has.code_is in (
      sym p.1,
      sym (reached_back s m has.legal) ∙ ap (λ to. reached s m.from to) (sym p.0) ∙ ap (λ from. reached s from (number % 64)) (sym p.1),
      sym (promotion_back m.promo has.legal.moves.is_move.promotes) ∙ ap promotion_of (sym (p.2 ∙ promotion_is m.promo has.legal.moves.is_move.promotes)),
    )

same_moves : (m n : Moved) → m.from ≡ n.from → m.to ≡ n.to → m.promo ≡ n.promo → m ≡ n
same_moves m n from to promo =
    ap (λ a. moved_of a m.to m.promo) from ∙ ap (λ b. moved_of n.from b m.promo) to ∙ ap (λ (p : Option Kind). moved_of n.from n.to p) promo

pub code_is_one : (s : Position) (m n : Moved) (number : ℕ) → IsSetup s → HasCode s m number → HasCode s n number → m ≡ n
code_is_one s m n number setup x y =
    let p = parts s m number x in
    let q = parts s n number y in
    same_moves m n (p.0 ∙ sym q.0) (p.1 ∙ sym q.1) (p.2 ∙ sym q.2)

-- a move that is made of the parts of a code is the one that has it
pub made_of_fields : (s : Position) (number from to : ℕ) (promo : Option Kind) (made : Option Moved) → from ≡ (number / 64) % 64 → to ≡ reached s from (number % 64) → promo ≡ promotion_of (number / 4096)
    → SomeIff made ((from ≢ to) × ForSome promo IsPromotion) (moved_of from to promo) → (m : Moved) → HasCode s m number → made ≡ Some m
made_of_fields s number from to promo None from_is to_is promo_is made m has =
    let p = parts s m number has in
    let same_from : m.from ≡ from = p.0 ∙ sym from_is in
    let same_to : m.to ≡ to = p.1 ∙ ap (λ q. reached s q (number % 64)) (sym from_is) ∙ sym to_is in
    let same_promo : promo ≡ m.promo = promo_is ∙ sym p.2 in
    absurd (made (λ same. has.legal.moves.is_move.moves (same_from ∙ same ∙ sym same_to), λ kind is. has.legal.moves.is_move.promotes kind (sym same_promo ∙ is)))
made_of_fields s number from to promo (Some n) from_is to_is promo_is made m has =
    let p = parts s m number has in
    let same_from : m.from ≡ from = p.0 ∙ sym from_is in
    let same_to : m.to ≡ to = p.1 ∙ ap (λ q. reached s q (number % 64)) (sym from_is) ∙ sym to_is in
    let same_promo : m.promo ≡ promo = p.2 ∙ sym promo_is in
    ap (λ (k : Moved). Some k) (made.1 ∙ sym (same_moves m (moved_of from to promo) same_from same_to same_promo))
