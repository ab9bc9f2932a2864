-- A list of legal moves in order, one order_of at a time.
use Rattle.std.proofs.Common.{◌≡◌, ℕ, ◌+◌, ◌*◌, ◌<◌, ◌≤◌, refl, arith, inl, inr, sym, ap, subst, ◌∙◌, Option, Some, None, List, [], ◌∷◌, ◌++◌, Contains, w64, ◌^◌, ◌≢◌}
use Rattle.std.proofs.lemmas.Bool.{cases_lt}
use Rattle.std.proofs.lemmas.List.Elements.{All-push, All-weaker, All-get_or, Contains-push, Contains-append_left}
use Rattle.std.proofs.lemmas.List.Quantifiers.{all_pairs_push}
use Rattle.pb_board.specs.declared.piece.Kind.{Kind}
use Rattle.pb_board.specs.declared.piece.Kind.TheVariants.{Pawn, Knight, Bishop, Rook, Queen, King}
use Rattle.pb_board.specs.declared.piece.Colour.{Colour}
use Rattle.pb_board.specs.declared.piece.Colour.TheVariants.{White, Black}
use Rattle.pb_board.specs.declared.piece.Piece.{Piece}
use Rattle.std.specs.Prelude.{IsSome}
use Rattle.pb_board.specs.Board.{Holds, IsEmpty, rank_for}
use Rattle.pb_board.specs.Piece.{opponent, piece_of}
use Rattle.pb_board.specs.Position.{IsSetup, Position}
use Rattle.pb_board.specs.declared.castling.Castling.{Castling}
use Rattle.pb_board.specs.declared.castling.Castling.TheVariants.{WhiteShort}
use Rattle.std.specs.Int.{bit_at, trailing_zeros}
use Rattle.pb_moves.proofs.Pins.{differ}
use Rattle.pb_moves.proofs.Castlings.{by_row}
use Rattle.pb_moves.proofs.Kings.{castling_unpinned, holds_one}
use Rattle.pb_moves.proofs.Unique.{en_passant_at}
use Rattle.pb_moves.proofs.Ways.{Way, alone, castling, kind_is, own_is, passing, way}
use Rattle.pb_moves.specs.Legal.{IsCapturable, Legal, MayGo, PseudoLegal}
use Rattle.pb_moves.proofs.Rising.{low_bits, zeros_bound, zeros_rise, without, without_other, without_small}
use Rattle.pb_moves.specs.Moved.{Moved, IsMove, IsPromotion, promotion_number}
use Rattle.pb_moves.specs.Packed.{promotion_small}
use Rattle.pb_board.specs.Castling.{castling_row}
use Rattle.pb_moves.specs.Listing.{order_of, ListsLegal}
use Rattle.pb_moves.specs.Candidate.{IsOwn, MayReach, MayPromote, ListsBelow}

-- a stretch of places with no legal move
pub lists_skip : (s : Position) (ms : List Moved) (n k : ℕ) → n ≤ k → ListsBelow s ms n
    → ((m : Moved) → Legal s m → n ≤ order_of m → order_of m < k → ⊥) → ListsBelow s ms k
lists_skip s ms n k le lists none = record {
  legal = All-weaker (λ m. Legal s m × (order_of m < n)) (λ m. Legal s m × (order_of m < k)) (λ m h. (h.0, omega (arith, h.1))) ms lists.legal;
  every = λ m legal below. elim (cases_lt (order_of m) n) [ inl l ↦ lists.every m legal l | inr g ↦ absurd (none m legal g below) ];
  ordered = lists.ordered;
}

-- the next order_of has this legal move, and no other
pub lists_push : (s : Position) (ms : List Moved) (n : ℕ) (m : Moved) → ListsBelow s ms n → Legal s m → order_of m ≡ n
    → ((q : Moved) → IsMove q → order_of q ≡ n → q ≡ m) → ListsBelow s (ms ++ m ∷ []) (n + 1)
lists_push s ms n m lists legal here only = record {
  legal = All-push (λ q. Legal s q × (order_of q < n + 1)) ms m (All-weaker (λ q. Legal s q × (order_of q < n)) (λ q. Legal s q × (order_of q < n + 1)) (λ q h. (h.0, omega (arith, h.1))) ms lists.legal) (legal, omega arith);
  every = λ q legalq below. elim (cases_lt (order_of q) n) [
    | inl l ↦ Contains-append_left ms (m ∷ []) q (lists.every q legalq l)
    | inr g ↦
        (let P : Moved → Type 0 = λ x. Contains (ms ++ m ∷ []) x in
        let at_n : order_of q ≡ n = omega arith in
        subst P (sym (only q legalq.moves.is_move at_n)) (Contains-push ms m))
  ];
  ordered = all_pairs_push (λ a b. order_of a < order_of b) ms m lists.ordered
      (λ k d lt. let h = All-get_or (λ q. Legal s q × (order_of q < n)) ms k d lt lists.legal in omega (arith, h.1));
}

pub place_below : (m : Moved) → IsMove m → order_of m < 20480
place_below m ok = let a = ok.from_on_board in let b = ok.to_on_board in let c = promotion_small m.promo in omega arith

pub lists_all : (s : Position) (ms : List Moved) → ListsBelow s ms 20480 → ListsLegal s ms
lists_all s ms lists = record {
  legal = All-weaker (λ m. Legal s m × (order_of m < 20480)) (Legal s) (λ m h. h.0) ms lists.legal;
  every = λ m legal. lists.every m legal (place_below m legal.moves.is_move);
  ordered = lists.ordered;
}

-- lawful promotions are told by their places
pub promotion_one : (o p : Option Kind) → ((k : Kind) → o ≡ Some k → IsPromotion k) → ((k : Kind) → p ≡ Some k → IsPromotion k)
    → promotion_number o ≡ promotion_number p → o ≡ p
promotion_one None None h g e = refl
promotion_one (Some Knight) (Some Knight) h g e = refl
promotion_one (Some Bishop) (Some Bishop) h g e = refl
promotion_one (Some Rook) (Some Rook) h g e = refl
promotion_one (Some Queen) (Some Queen) h g e = refl
promotion_one (Some Pawn) p h g e = absurd ((h Pawn refl).0 refl)
promotion_one (Some King) p h g e = absurd ((h King refl).1 refl)
promotion_one o (Some Pawn) h g e = absurd ((g Pawn refl).0 refl)
promotion_one o (Some King) h g e = absurd ((g King refl).1 refl)
promotion_one o p h g e = absurd (omega arith)

-- a move is told by its order_of
pub move_at : (from to : ℕ) (promo : Option Kind) (q : Moved) → from < 64 → to < 64 → ((k : Kind) → promo ≡ Some k → IsPromotion k) → IsMove q
    → order_of q ≡ 320 * from + 5 * to + promotion_number promo → q ≡ record { from = from; to = to; promo = promo }
move_at from to promo q on_from on_to lawful ok here =
    let a = ok.from_on_board in
    let b = ok.to_on_board in
    let c = promotion_small q.promo in
    let e = promotion_small promo in
    let same_from : q.from ≡ from = omega arith in
    let same_to : q.to ≡ to = omega arith in
    let same_place : promotion_number q.promo ≡ promotion_number promo = omega arith in
    let F : ℕ → Moved = λ x. record { from = x; to = q.to; promo = q.promo } in
    let G : ℕ → Moved = λ x. record { from = from; to = x; promo = q.promo } in
    let H : Option Kind → Moved = λ x. record { from = from; to = to; promo = x } in
    ap F same_from ∙ ap G same_to ∙ ap H (promotion_one q.promo promo ok.promotes lawful same_place)

-- one order_of where no legal move is
pub lists_pass : (s : Position) (ms : List Moved) (from to : ℕ) (promo : Option Kind) → from < 64 → to < 64 → ((k : Kind) → promo ≡ Some k → IsPromotion k)
    → (let m : Moved = record { from = from; to = to; promo = promo } in Legal s m → ⊥)
    → ListsBelow s ms (320 * from + 5 * to + promotion_number promo) → ListsBelow s ms (320 * from + 5 * to + promotion_number promo + 1)
lists_pass s ms from to promo on_from on_to lawful none lists =
    let n = 320 * from + 5 * to + promotion_number promo in
    lists_skip s ms n (n + 1) (omega arith) lists (λ q legal lo hi.
    let here : order_of q ≡ 320 * from + 5 * to + promotion_number promo = omega arith in
    let same = move_at from to promo q on_from on_to lawful legal.moves.is_move here in
    none (subst (Legal s) same legal))

-- no legal move leaves a square without a piece of the side to move
pub lists_pass_from : (s : Position) (ms : List Moved) (from : ℕ) → ((p : Piece) → ¬ IsOwn s from p) → ListsBelow s ms (320 * from) → ListsBelow s ms (320 * from + 320)
lists_pass_from s ms from none lists =
    lists_skip s ms (320 * from) (320 * from + 320) (omega arith) lists (λ q legal lo hi.
    let a = legal.moves.is_move.to_on_board in
    let b = promotion_small q.promo in
    let same : q.from ≡ from = omega arith in
    let p = piece_of s.turn legal.moves.kind in
    let P : ℕ → Type 0 = λ x. IsOwn s x p in
    none p (subst P same (record { stands = legal.moves.stands; own = refl })))

pub castling_goes : (c : Castling) (colour : Colour) (a b : ℕ) (kind : Kind) → kind ≡ King → a ≡ (castling_row c).king_from → b ≡ (castling_row c).king_to → MayReach colour kind a b
castling_goes WhiteShort colour a b _ e f g = inr (e, omega arith, omega arith)
castling_goes c colour a b _ e f g = inr (e, omega arith, omega arith)

-- a piece goes only where its kind may
reaches_so : (s : Position) (m : Moved) (kind : Kind) → MayGo s m kind → MayReach s.turn kind m.from m.to
reaches_so s m k (inl (attacks, lands)) = inl (inl (attacks.0, attacks.1))
reaches_so s m k (inr (inl (pawn, x))) = inl (inr (pawn, (x.same_file, x.forward)))
reaches_so s m k (inr (inr (king, x))) = let by = by_row s.turn m x.goes in castling_goes by.0 s.turn m.from m.to k king by.1.from_is by.1.to_is

pub goes_within : (s : Position) (m : Moved) (p : Piece) → Holds s.board m.from p → PseudoLegal s m → MayReach p.colour p.kind m.from m.to
goes_within s m p stands h =
    let R : Piece → Type 0 = λ x. MayReach x.colour x.kind m.from m.to in
    subst R (sym (own_is s m p h stands)) (reaches_so s m h.kind h.goes)

-- only a pawn on the first or last rank is promoted
last_rank : (side : Colour) (kind : Kind) (q : ℕ) → (kind ≡ Pawn) × (rank_for side q ≡ 7) → MayPromote kind q
last_rank White k q h = (h.0, inr h.1)
last_rank Black k q h = let last = h.1 in (h.0, inl (omega (arith, last)))

pub promotes_there : (s : Position) (m : Moved) (p : Piece) (k : Kind) → Holds s.board m.from p → PseudoLegal s m → m.promo ≡ Some k → MayPromote p.kind m.to
promotes_there s m p k stands h e =
    let S : Option Kind → Type 0 = λ o. IsSome o in
    let P : Kind → Type 0 = λ x. MayPromote x m.to in
    subst P (sym (kind_is s m p h stands)) (last_rank s.turn h.kind m.to (h.promotes.0 (subst S (sym e) refl)))

pub promotion_some : (o : Option Kind) → 0 < promotion_number o → (k : Kind) × (o ≡ Some k)
promotion_some None h = absurd (omega arith)
promotion_some (Some k) h = (k, refl)

-- what is taken is no piece of the side that moves
no_capturable : (s : Position) (q : ℕ) (r : Piece) → IsCapturable s q → IsOwn s q r → ⊥
no_capturable s q r (k, no_king, stands) own =
    let enemy = piece_of (opponent s.turn) k in
    differ s.turn (ap (λ (x : Piece). x.colour) (holds_one s.board q enemy r stands own.stands) ∙ own.own)

not_empty : (s : Position) (q : ℕ) (r : Piece) → IsEmpty s.board q → IsOwn s q r → ⊥
not_empty s q r empty own = let no : None ≡ Some r = sym empty ∙ own.stands in cc

-- no piece goes to where a piece of its own side stands
unpinned_of_own : (s : Position) (m : Moved) (kind : Kind) (r : Piece) → IsSetup s → Way s m kind → IsOwn s m.to r → ⊥
unpinned_of_own s m k r ok (alone goes e) own = elim goes.0 [ inl empty ↦ not_empty s m.to r empty own | inr capturable ↦ no_capturable s m.to r capturable own ]
unpinned_of_own s m k r ok (passing pawn takes e) own = not_empty s m.to r (en_passant_at s m.to ok takes.0).1.0 own
unpinned_of_own s m k r ok (castling king c x asks e) own =
    not_empty s m.to r (subst (λ q. IsEmpty s.board q) (sym x.to_is) (castling_unpinned c s asks).0) own

-- the bits of the squares from one on, to which a piece may go and on which no piece of its own
-- side stands
pub record HasTargets (s : Position) (p : Piece) (from k bits : ℕ) : Type 0 where
  pub every : (q : ℕ) → q < 64 → k ≤ q → MayReach p.colour p.kind from q → ((r : Piece) → ¬ IsOwn s q r) → bit_at bits q ≡ 1

-- no legal move goes to a square before the lowest of the bits
pub lists_to_lowest : (s : Position) (ms : List Moved) (p : Piece) (from k bits : ℕ) → IsSetup s → IsOwn s from p → bits < 2 ^ 64 → k ≤ trailing_zeros w64 bits
    → HasTargets s p from k bits → ListsBelow s ms (320 * from + 5 * k) → ListsBelow s ms (320 * from + 5 * trailing_zeros w64 bits)
lists_to_lowest s ms p from k bits ok own small le targets lists =
    lists_skip s ms (320 * from + 5 * k) (320 * from + 5 * trailing_zeros w64 bits) (omega arith) lists (λ q legal lo hi.
    let a = legal.moves.is_move.to_on_board in
    let b = promotion_small q.promo in
    let bound = zeros_bound bits small in
    let same_from : q.from ≡ from = omega arith in
    let from_on : k ≤ q.to = omega arith in
    let before : q.to < trailing_zeros w64 bits = omega arith in
    let P : ℕ → Type 0 = λ x. Holds s.board x p in
    let stands = subst P (sym same_from) own.stands in
    let moves = legal.moves in
    let G : ℕ → Type 0 = λ x. MayReach p.colour p.kind x q.to in
    let one = targets.every q.to a from_on (subst G same_from (goes_within s q p stands moves)) (λ r. unpinned_of_own s q moves.kind r ok (way s q moves.kind ok moves.goes)) in
    let none = low_bits bits q.to small before in
    omega arith)

-- the bits left after the lowest are those of the squares after it
pub targets_left : (s : Position) (p : Piece) (from k bits : ℕ) → k ≤ trailing_zeros w64 bits → trailing_zeros w64 bits < 64 → HasTargets s p from k bits
    → HasTargets s p from (trailing_zeros w64 bits + 1) (without bits (trailing_zeros w64 bits))
targets_left s p from k bits le some targets = record {
  every = λ q on after may unpinned. (let ne : q ≢ trailing_zeros w64 bits = λ e. omega arith in
      without_other bits (trailing_zeros w64 bits) q some on ne ∙ targets.every q on (omega arith) may unpinned);
}

-- no promotion is legal where none may be
pub lists_pass_promotions : (s : Position) (ms : List Moved) (p : Piece) (from to : ℕ) → to < 64 → IsOwn s from p → ¬ MayPromote p.kind to
    → ListsBelow s ms (320 * from + 5 * to + 1) → ListsBelow s ms (320 * from + 5 * to + 5)
lists_pass_promotions s ms p from to on_to own none lists =
    lists_skip s ms (320 * from + 5 * to + 1) (320 * from + 5 * to + 5) (omega arith) lists (λ q legal lo hi.
    let a = legal.moves.is_move.to_on_board in
    let b = promotion_small q.promo in
    let same_from : q.from ≡ from = omega arith in
    let same_to : q.to ≡ to = omega arith in
    let P : ℕ → Type 0 = λ x. Holds s.board x p in
    let some = promotion_some q.promo (omega arith) in
    let H : ℕ → Type 0 = λ x. MayPromote p.kind x in
    none (subst H same_to (promotes_there s q p some.0 (subst P (sym same_from) own.stands) legal.moves some.1)))

-- after the moves to the square of the lowest bit, go on with the next
pub lists_next : (s : Position) (ms : List Moved) (p : Piece) (from bits to : ℕ) → IsSetup s → IsOwn s from p → bits < 2 ^ 64 → trailing_zeros w64 bits < 64
    → to ≡ trailing_zeros w64 bits → HasTargets s p from (trailing_zeros w64 bits) bits → ListsBelow s ms (320 * from + 5 * to + 5)
    → (let rest = without bits (trailing_zeros w64 bits) in
    ListsBelow s ms (320 * from + 5 * trailing_zeros w64 rest) × HasTargets s p from (trailing_zeros w64 rest) rest)
lists_next s ms p from bits to ok own small some here targets lists =
    let k = trailing_zeros w64 bits in
    let rest = without bits (trailing_zeros w64 bits) in
    let smaller = without_small bits (trailing_zeros w64 bits) small in
    let rises = zeros_rise bits small smaller some in
    let le : trailing_zeros w64 bits + 1 ≤ trailing_zeros w64 (without bits (trailing_zeros w64 bits)) = omega arith in
    let left = targets_left s p from k bits (omega arith) some targets in
    let L : ℕ → Type 0 = λ n. ListsBelow s ms n in
    let next : 320 * from + 5 * to + 5 ≡ 320 * from + 5 * (trailing_zeros w64 bits + 1) = omega arith in (
      lists_to_lowest s ms p from (k + 1) rest ok own smaller le left (subst L next lists),
      record { every = λ q on after may unpinned. left.every q on (omega arith) may unpinned },
    )
