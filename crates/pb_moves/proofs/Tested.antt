-- Tests of all squares of a board, which compute, for what is said of every square: a clear way, and
-- a king whom no enemy piece attacks.
use Rattle.std.proofs.Common.{◌≡◌, ◌≢◌, ℕ, ◌+◌, ◌*◌, Bool, true, false, ◌&&◌, ◌||◌, eqb, Some, None, max, refl, sym, ap, subst, ◌∙◌, inl, inr, arith, zero-add}
use Rattle.std.proofs.Math.Bool.{not}
use Rattle.std.proofs.lemmas.Bool.{false≢true}
use Rattle.std.proofs.lemmas.Bool.Decides.{nat_tests}
use Rattle.pb_board.specs.declared.piece.Colour.{Colour}
use Rattle.pb_board.specs.declared.piece.Colour.TheVariants.{White, Black}
use Rattle.pb_board.specs.declared.piece.Kind.{Kind}
use Rattle.pb_board.specs.declared.piece.Kind.TheVariants.{Pawn, Knight, Bishop, Rook, Queen, King}
use Rattle.pb_board.specs.declared.piece.Piece.{Piece}
use Rattle.pb_board.specs.Piece.{colour_number, king_of, opponent, piece_of}
use Rattle.pb_board.specs.Board.{Board, Place, Holds, IsEmpty, at}
use Rattle.pb_board.proofs.Starts.{all_from, all_from_at, king_test, tested_king}
use Rattle.pb_moves.specs.Attacks.{Clear, InCheck, IsAttacked, IsBetween, Pattern, files_apart, ranks_apart}

yes : (m n : ℕ) → m ≡ n → eqb m n ≡ true
yes m n e = grind (arith, nat_tests)

no : (m n : ℕ) → m ≢ n → eqb m n ≡ false
no m n e = grind (arith, nat_tests)

-- what holds of a place by its index, from a test of the whole board
told : (test : ℕ → Place → Bool) (board : Board) (q : ℕ) (p : Piece) → all_from test 0 board ≡ true → Holds board q p → test q (Some p) ≡ true
told test board q p all holds = subst (λ n. test n (Some p) ≡ true) (zero-add q) (all_from_at test 0 board q p all holds)

-- ---- clear ways

-- nothing stands on the square, or it doesn't lie between
unfoldable pub is_open : ℕ → ℕ → ℕ → Place → Bool
is_open a b q None = true
is_open a b q (Some p) =
    eqb q a || (eqb q b || (not (eqb (files_apart a q + files_apart q b) (files_apart a b))
    || (not (eqb (ranks_apart a q + ranks_apart q b) (ranks_apart a b))
    || not (eqb (files_apart a q * ranks_apart a b) (ranks_apart a q * files_apart a b)))))

none_of : (v w x y z : Bool) → v ≡ false → w ≡ false → x ≡ true → y ≡ true → z ≡ true → (v || (w || (not x || (not y || not z)))) ≡ false
none_of v w x y z d e f g h = rw (d, e, f, g, h) refl

shut : (a b q : ℕ) (p : Piece) → IsBetween a q b → is_open a b q (Some p) ≡ false
unfolding is_open
shut a b q p h = none_of _ _ _ _ _ (no _ _ h.0) (no _ _ h.1) (yes _ _ h.2) (yes _ _ h.3) (yes _ _ h.4)

empty_by : (a b : ℕ) (board : Board) (q : ℕ) (place : Place) → all_from (is_open a b) 0 board ≡ true → IsBetween a q b → at board q ≡ place → IsEmpty board q
empty_by a b board q None all between e = e
empty_by a b board q (Some p) all between e = absurd (false≢true (sym (shut a b q p between) ∙ told (is_open a b) board q p all e))

pub clear : (a b : ℕ) (board : Board) → all_from (is_open a b) 0 board ≡ true → Clear board a b
clear a b board all q on between = empty_by a b board q (at board q) all between refl

-- ---- squares that nothing attacks

-- a piece of this kind may attack by so many files and ranks, or by none
unfoldable pub may : Kind → ℕ → ℕ → Bool
may Pawn files ranks = eqb files 1 && eqb ranks 1
may Knight files ranks = eqb (files * ranks) 2
may Bishop files ranks = eqb files ranks
may Rook files ranks = eqb (files * ranks) 0
may Queen files ranks = eqb files ranks || eqb (files * ranks) 0
may King files ranks = eqb (max files ranks) 1

or_right : (a b : Bool) → b ≡ true → (a || b) ≡ true
or_right true b e = refl
or_right false b e = e

may_by : (kind : Kind) (files ranks : ℕ) → Pattern kind files ranks → may kind files ranks ≡ true
unfolding may
may_by Pawn files ranks h = rw (h.0, h.1) refl
may_by Knight files ranks h = yes _ _ h
may_by Bishop files ranks h = yes _ _ h.0
may_by Rook files ranks h = yes _ _ h.0
may_by Queen files ranks (inl h, some) = ap (λ x. x || eqb (files * ranks) 0) (yes _ _ h)
may_by Queen files ranks (inr h, some) = or_right _ _ (yes _ _ h)
may_by King files ranks h = yes _ _ h

-- the place has no piece of this side that may attack the square
unfoldable pub is_harmless : Colour → ℕ → ℕ → Place → Bool
is_harmless side square q None = true
is_harmless side square q (Some p) = not (eqb (colour_number p.colour) (colour_number side)) || not (may p.kind (files_apart q square) (ranks_apart q square))

spared : (side : Colour) (square q : ℕ) (kind : Kind) → is_harmless side square q (Some (piece_of side kind)) ≡ true → not (may kind (files_apart q square) (ranks_apart q square)) ≡ true
unfolding is_harmless
spared White square q k e = e
spared Black square q k e = e

pub unattacked : (side : Colour) (square : ℕ) (board : Board) → all_from (is_harmless side square) 0 board ≡ true → ¬ IsAttacked board side square
unattacked side square board all (a, kind, holds, attacks) =
    let none = spared side square a kind (told (is_harmless side square) board a (piece_of side kind) all holds) in
    let some = may_by kind (files_apart a square) (ranks_apart a square) attacks.0 in
    false≢true (sym (ap not some) ∙ none)

-- the king stands there alone, and no enemy piece may attack the square
abbrev pub IsSafe : Colour → ℕ → Board → Type 0
IsSafe side king board = Holds board king (king_of side) × (all_from (king_test side king) 0 board ≡ true) × (all_from (is_harmless (opponent side) king) 0 board ≡ true)

pub unchecked : (side : Colour) (king : ℕ) (board : Board) → IsSafe side king board → ¬ InCheck board side
unchecked side king board safe (k, stands, attacked) =
    let at_king = (tested_king board side king safe.0 safe.1 k).0 stands in
    unattacked (opponent side) king board safe.2 (subst (IsAttacked board (opponent side)) at_king attacked)
