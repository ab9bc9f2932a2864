-- The initial array meets the rules of a setup.
use Rattle.std.proofs.Common.{◌≡◌, ℕ, zero, suc, ◌+◌, ◌<◌, ◌≤◌, Bool, true, false, ◌&&◌, ◌||◌, eqb, ltb, leb, List, [], ◌∷◌, Some, None, refl, subst, arith, zero-add}
use Rattle.std.proofs.Math.Bool.{not}
use Rattle.std.proofs.lemmas.Bool.{false≢true}
use Rattle.std.proofs.lemmas.Bool.Decides.{nat_tests}
use Rattle.pb_board.specs.declared.piece.Colour.{Colour}
use Rattle.pb_board.specs.declared.piece.Colour.TheVariants.{White, Black}
use Rattle.pb_board.specs.declared.piece.Piece.{Piece}
use Rattle.pb_board.specs.declared.setup.Rights.{Rights}
use Rattle.pb_board.specs.Piece.{king_of, pawn_of}
use Rattle.pb_board.specs.Board.{Place, Board, at, Holds}
use Rattle.pb_board.specs.Position.{HasKings, HasNoEdgePawn, IsOnlyKing, IsSetup, position_of}
use Rattle.pb_board.specs.Text.{piece_letter}
use Rattle.pb_board.specs.Initial.{initial_board}
use Rattle.pb_board.proofs.Kings.{only_king}

-- each place passes the test at its index
abbrev pub all_from : (ℕ → Place → Bool) → ℕ → List Place → Bool
all_from test i [] = true
all_from test i (x ∷ xs) = test i x && all_from test (suc i) xs

both : (a b : Bool) → (a && b) ≡ true → (a ≡ true) × (b ≡ true)
both true b e = (refl, e)
both false b e = absurd (false≢true e)

pub all_from_at : (test : ℕ → Place → Bool) (i : ℕ) (xs : List Place) (k : ℕ) (piece : Piece) → all_from test i xs ≡ true → at xs k ≡ Some piece → test (i + k) (Some piece) ≡ true
all_from_at test i [] k piece e holds = absurd cc
all_from_at test i (y ∷ ys) zero piece e holds =
    let here : i + 0 ≡ i = omega arith in
    rw (here, ← holds) (both (test i y) (all_from test (suc i) ys) e).0
all_from_at test i (y ∷ ys) (suc k) piece e holds =
    let here : i + suc k ≡ suc i + k = omega arith in
    rw here (all_from_at test (suc i) ys k piece (both (test i y) (all_from test (suc i) ys) e).1 holds)

-- the place holds this piece, told by its letter
unfoldable pub is_it : Piece → Place → Bool
is_it piece None = false
is_it piece (Some other) = eqb (piece_letter other) (piece_letter piece)

unfoldable pub king_test : Colour → ℕ → ℕ → Place → Bool
king_test side k i place = not (is_it (king_of side) place) || eqb i k

edge_test : Colour → ℕ → Place → Bool
edge_test side i place = not (is_it (pawn_of side) place) || (leb 8 i && ltb i 56)

itself : (n : ℕ) → eqb n n ≡ true
itself n = grind (arith, nat_tests)

same_from_eqb : (m n : ℕ) → eqb m n ≡ true → m ≡ n
same_from_eqb m n e = grind (arith, nat_tests)

king_at : (side : Colour) (k q : ℕ) → king_test side k q (Some (king_of side)) ≡ true → q ≡ k
unfolding king_test is_it
king_at side k q e = same_from_eqb q k (rw itself at e)

edge_at : (side : Colour) (q : ℕ) → edge_test side q (Some (pawn_of side)) ≡ true → (8 ≤ q) × (q < 56)
unfolding edge_test is_it
edge_at side q e =
    let h : (leb 8 q && ltb q 56) ≡ true = rw itself at e in
    grind (arith, nat_tests, both)

pub tested_king : (board : Board) (side : Colour) (k : ℕ) → Holds board k (king_of side) → all_from (king_test side k) 0 board ≡ true → IsOnlyKing board side k
tested_king board side k here all = only_king board side k here (λ q h.
    let passes = all_from_at (king_test side k) 0 board q (king_of side) all h in
    king_at side k q (subst (λ n. king_test side k n (Some (king_of side)) ≡ true) (zero-add q) passes))

no_edge_pawn : (board : Board) → ((side : Colour) → all_from (edge_test side) 0 board ≡ true) → HasNoEdgePawn board
no_edge_pawn board all q side h =
    let passes = all_from_at (edge_test side) 0 board q (pawn_of side) (all side) h in
    let within = edge_at side q (subst (λ n. edge_test side n (Some (pawn_of side)) ≡ true) (zero-add q) passes) in
    (omega (arith, within.0), omega (arith, within.1))

edges : (side : Colour) → all_from (edge_test side) 0 initial_board ≡ true
unfolding initial_board edge_test is_it
edges White = refl
edges Black = refl

kings : HasKings initial_board
unfolding initial_board king_test is_it
kings White = (4, tested_king initial_board White 4 refl refl)
kings Black = (60, tested_king initial_board Black 60 refl refl)

pub initial_rules : (rights : Rights) → IsSetup (position_of initial_board White rights None)
unfolding initial_board
initial_rules rights = record {
  places = refl;
  kings = kings;
  pawns = no_edge_pawn initial_board edges;
  en_passant = tt;
}
