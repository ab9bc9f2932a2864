-- What a move does to the sum over the offsets of a board's pieces.
use Rattle.std.proofs.Common.{◌≡◌, ◌≢◌, ℕ, zero, suc, ◌+◌, ◌%◌, ◌<◌, Option, Some, None, List, [], ◌∷◌, ◌++◌, length, refl, sym, ap, ◌∙◌, subst, arith}
use Rattle.std.specs.Option.{option_map_or}
use Rattle.std.specs.Prelude.{IfSome}
use Rattle.pb_board.specs.declared.piece.Colour.{Colour}
use Rattle.pb_board.specs.declared.piece.Piece.{Piece}
use Rattle.pb_board.specs.declared.setup.MovedPiece.{MovedPiece}
use Rattle.pb_board.specs.Board.{Board, Place, at, Holds}
use Rattle.pb_board.specs.MovedPiece.{with_moved, with_pieces_moved}
use Rattle.pb_board.specs.Position.{Position, IsSetup}
use Rattle.pb_moves.specs.declared.effect.Effect.{Effect}
use Rattle.pb_moves.specs.Effect.{IsEffect}
use Rattle.pb_moves.specs.Moved.{Moved}
use Rattle.pb_moves.specs.MovedPieces.{CanFollow}
use Rattle.pb_moves.specs.Successor.{after}
use Rattle.pb_moves.proofs.MovedPiece.{put}
use Rattle.pb_moves.proofs.Differing.{at_put_other, at_put_same, holds_on_board, length_put, same_lists}
use Rattle.pb_poly.specs.Key.{piece_offsets}
use Rattle.pb_poly.specs.KeyChange.{going_offsets, moved_offsets, square_offsets}
use Rattle.pb_poly.proofs.Among.{total}

pub total-append : (f : ℕ → ℕ) (xs ys : List ℕ) → total f (xs ++ ys) ≡ total f xs + total f ys
total-append f [] ys = omega arith
total-append f (x ∷ xs) ys = let more = total-append f xs ys in omega (arith, more)

-- ---- the board

first_square : (f : ℕ → ℕ) (content : Place) (board : Board) (n : ℕ) → total f (piece_offsets (content ∷ board) n) ≡ total f (square_offsets content n) + total f (piece_offsets board (n + 1))
first_square f None board n = omega arith
first_square f (Some p) board n = omega arith

-- where two boards differ on one square at most, their sums differ by what stands there
one_square : (f : ℕ → ℕ) (old new : Board) (n q : ℕ) → length old ≡ length new → ((r : ℕ) → r ≢ q → at old r ≡ at new r)
    → total f (piece_offsets old n) + total f (square_offsets (at new q) (n + q)) ≡ total f (piece_offsets new n) + total f (square_offsets (at old q) (n + q))
one_square f [] [] n q same others = refl
one_square f [] (y ∷ new) n q same others = absurd (omega arith)
one_square f (x ∷ old) [] n q same others = absurd (omega arith)
one_square f (x ∷ old) (y ∷ new) n zero same others =
    let rest : old ≡ new = same_lists old new None (omega arith) (λ r. others (suc r) (omega arith)) in
    let tail = ap (λ (b : Board). total f (piece_offsets b (n + 1))) rest in
    let here : (p : Place) → total f (square_offsets p (n + 0)) ≡ total f (square_offsets p n) = λ p. ap (λ m. total f (square_offsets p m)) (omega arith) in
    let left = first_square f x old n in
    let right = first_square f y new n in
    let a = here x in
    let b = here y in
    omega (arith, tail, left, right, a, b)
one_square f (x ∷ old) (y ∷ new) n (suc q) same others =
    let head : x ≡ y = others 0 (omega arith) in
    let first = ap (λ (p : Place). total f (square_offsets p n)) head in
    let more = one_square f old new (n + 1) q (omega arith) (λ r other. others (suc r) (omega arith)) in
    let there : (p : Place) → total f (square_offsets p (n + suc q)) ≡ total f (square_offsets p (n + 1 + q)) = λ p. ap (λ m. total f (square_offsets p m)) (omega arith) in
    let left = first_square f x old n in
    let right = first_square f y new n in
    let a = there (at old q) in
    let b = there (at new q) in
    omega (arith, first, more, left, right, a, b)

-- ---- a piece that goes

-- the sum over what stands on one square, where that is known
known : (f : ℕ → ℕ) (board : Board) (q : ℕ) (content : Place) → at board q ≡ content → total f (square_offsets (at board q) (0 + q)) ≡ total f (square_offsets content q)
known f board q content is = ap (λ n. total f (square_offsets (at board q) n)) (omega arith) ∙ ap (λ (p : Place). total f (square_offsets p q)) is

-- the sum follows, as far as it is odd or even
going_changes : (f : ℕ → ℕ) (board : Board) (leaving : Piece) (c : MovedPiece) → length board ≡ 64 → Holds board c.from leaving → c.to < 64 → c.from ≢ c.to
    → (total f (piece_offsets board 0) + total f (going_offsets leaving c) + total f (square_offsets (at board c.to) c.to)) % 2 ≡ total f (piece_offsets (with_moved board c) 0) % 2
going_changes f board leaving c full stands on_to moves =
    let left = put board c.from None in
    let new = with_moved board c in
    let on_from = holds_on_board board c.from leaving full stands in
    let full_left = length_put board c.from None full in
    let full_new = length_put left c.to (Some c.piece) full_left in
    let first = one_square f board left 0 c.from (full ∙ sym full_left) (λ r other. sym (at_put_other board c.from r None other)) in
    let second = one_square f left new 0 c.to (full_left ∙ sym full_new) (λ r other. sym (at_put_other left c.to r (Some c.piece) other)) in
    let stood = known f board c.from (Some leaving) stands in
    let gone = known f left c.from None (at_put_same board c.from None full on_from) in
    let taken = known f left c.to (at board c.to) (at_put_other board c.from c.to None (λ e. moves (sym e))) in
    let come = known f new c.to (Some c.piece) (at_put_same left c.to (Some c.piece) full_left on_to) in
    omega (arith, first, second, stood, gone, taken, come)

second_changes : (f : ℕ → ℕ) (board : Board) (side : Colour) (second : Option MovedPiece) → length board ≡ 64 → IfSome second (CanFollow board side)
    → (total f (piece_offsets board 0) + total f (option_map_or (λ c. going_offsets c.piece c) second [])) % 2 ≡ total f (piece_offsets (option_map_or (λ c. with_moved board c) second board) 0) % 2
second_changes f board side None full follows = omega arith
second_changes f board side (Some second) full follows =
    let goes = going_changes f board second.piece second full follows.stands follows.arrives.on_board follows.arrives.moves in
    let free = ap (λ (p : Place). total f (square_offsets p second.to)) follows.empty in
    omega (arith, goes, free)

moved_board : (board : Board) (first : MovedPiece) (second : Option MovedPiece) → with_pieces_moved board first second ≡ option_map_or (λ c. with_moved (with_moved board first) c) second (with_moved board first)
moved_board board first None = refl
moved_board board first (Some second) = refl

pub moved_changes : (f : ℕ → ℕ) (s : Position) (m : Moved) (e : Effect) → IsSetup s → IsEffect s m e
    → (total f (piece_offsets s.board 0) + total f (moved_offsets s.board e)) % 2 ≡ total f (piece_offsets (after s m).board 0) % 2
moved_changes f s m e ok is =
    let first = e.first in
    let between = with_moved s.board first in
    let full = length_put (put s.board first.from None) first.to (Some first.piece) (length_put s.board first.from None ok.places) in
    let stands : Holds s.board first.from e.piece = subst (λ q. Holds s.board q e.piece) (sym is.fits.leaves) is.stands in
    let one = going_changes f s.board e.piece first ok.places stands is.fits.arrives.on_board is.fits.arrives.moves in
    let two = second_changes f between s.turn e.second full is.fits.follows in
    let taken = square_offsets (at s.board first.to) first.to in
    let second : List ℕ = option_map_or (λ c. going_offsets c.piece c) e.second [] in
    let all = total-append f (going_offsets e.piece first) (taken ++ second) in
    let parts = total-append f taken second in
    let board = ap (λ (b : Board). total f (piece_offsets b 0)) (ap (λ (t : Position). t.board) is.after ∙ moved_board s.board first e.second) in
    omega (arith, one, two, all, parts, board)
