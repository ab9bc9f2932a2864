-- The rows of the castling table.
use Rattle.std.proofs.Common.{◌≡◌, ◌≢◌, ℕ, ◌<◌, ◌≤◌, ◌⊎◌, ◌+◌, inl, inr, ap, ◌∙◌, refl, sym, arith, Bool, true, false, ◌&&◌, ◌||◌, ◌==◌, Option, Some, None, List, [], ◌∷◌, cond, ◌↔◌, subst}
use Rattle.std.specs.Prelude.{IsTrue, nat_lt}
use Rattle.std.specs.List.{find}
use Rattle.std.proofs.lemmas.Bool.{and_parts, eqb-true, or_cases}
use Rattle.pb_board.specs.declared.piece.Colour.{Colour}
use Rattle.pb_board.specs.declared.piece.Colour.TheVariants.{White, Black}
use Rattle.pb_board.specs.declared.castling.Castling.{Castling}
use Rattle.pb_board.specs.declared.castling.Castling.TheVariants.{WhiteShort, WhiteLong, BlackShort, BlackLong}
use Rattle.pb_board.specs.Castling.{CastlingRow, castling_from_home, castling_of, castling_row, castlings}
use Rattle.pb_board.specs.Piece.{opponent, rook_of}
use Rattle.pb_board.specs.Board.{Holds, Place}
use Rattle.pb_board.specs.Position.{Position}
use Rattle.pb_moves.specs.Attacks.{Clear, IsAttacked, IsBetween, Pattern, files_apart, ranks_apart}
use Rattle.pb_moves.specs.Legal.{Castles, has_right}
use Rattle.pb_moves.specs.Moved.{Moved, moved_of}
use Rattle.pb_moves.specs.Successor.{is_castling, middle, rook_home}
use Rattle.pb_board.specs.declared.piece.Kind.TheVariants.{Rook}

-- the four squares of a row lie on the board and differ, and king and rook go between where they
-- began
pub record IsRow (row : CastlingRow) : Type 0 where
  pub king_from : row.king_from < 64
  pub king_to : row.king_to < 64
  pub rook_from : row.rook_from < 64
  pub rook_to : row.rook_to < 64
  pub king_moves : row.king_from ≢ row.king_to
  pub from_rook : row.king_from ≢ row.rook_from
  pub from_rook_to : row.king_from ≢ row.rook_to
  pub to_rook : row.king_to ≢ row.rook_from
  pub to_rook_to : row.king_to ≢ row.rook_to
  pub rook_moves : row.rook_from ≢ row.rook_to
  pub line : Pattern Rook (files_apart row.king_from row.rook_from) (ranks_apart row.king_from row.rook_from)
  pub king_crosses : IsBetween row.king_from row.king_to row.rook_from
  pub rook_crosses : IsBetween row.king_from row.rook_to row.rook_from

-- what castling changes besides the king's two squares: the rook goes too
abbrev pub rook_goes : CastlingRow → List (ℕ × Place)
rook_goes row = (row.rook_from, None) ∷ (row.rook_to, Some (rook_of row.colour)) ∷ []

pub rows : (c : Castling) → IsRow (castling_row c)
rows WhiteShort = record {
  king_from = omega arith;
  king_to = omega arith;
  rook_from = omega arith;
  rook_to = omega arith;
  king_moves = λ e. omega arith;
  from_rook = λ e. omega arith;
  from_rook_to = λ e. omega arith;
  to_rook = λ e. omega arith;
  to_rook_to = λ e. omega arith;
  rook_moves = λ e. omega arith;
  line = (refl, omega arith);
  king_crosses = ((λ e. omega arith), (λ e. omega arith), refl, refl, refl);
  rook_crosses = ((λ e. omega arith), (λ e. omega arith), refl, refl, refl);
}
rows WhiteLong = record {
  king_from = omega arith;
  king_to = omega arith;
  rook_from = omega arith;
  rook_to = omega arith;
  king_moves = λ e. omega arith;
  from_rook = λ e. omega arith;
  from_rook_to = λ e. omega arith;
  to_rook = λ e. omega arith;
  to_rook_to = λ e. omega arith;
  rook_moves = λ e. omega arith;
  line = (refl, omega arith);
  king_crosses = ((λ e. omega arith), (λ e. omega arith), refl, refl, refl);
  rook_crosses = ((λ e. omega arith), (λ e. omega arith), refl, refl, refl);
}
rows BlackShort = record {
  king_from = omega arith;
  king_to = omega arith;
  rook_from = omega arith;
  rook_to = omega arith;
  king_moves = λ e. omega arith;
  from_rook = λ e. omega arith;
  from_rook_to = λ e. omega arith;
  to_rook = λ e. omega arith;
  to_rook_to = λ e. omega arith;
  rook_moves = λ e. omega arith;
  line = (refl, omega arith);
  king_crosses = ((λ e. omega arith), (λ e. omega arith), refl, refl, refl);
  rook_crosses = ((λ e. omega arith), (λ e. omega arith), refl, refl, refl);
}
rows BlackLong = record {
  king_from = omega arith;
  king_to = omega arith;
  rook_from = omega arith;
  rook_to = omega arith;
  king_moves = λ e. omega arith;
  from_rook = λ e. omega arith;
  from_rook_to = λ e. omega arith;
  to_rook = λ e. omega arith;
  to_rook_to = λ e. omega arith;
  rook_moves = λ e. omega arith;
  line = (refl, omega arith);
  king_crosses = ((λ e. omega arith), (λ e. omega arith), refl, refl, refl);
  rook_crosses = ((λ e. omega arith), (λ e. omega arith), refl, refl, refl);
}

pub class_of_castling : (c : Castling) (f t : ℕ) → f ≡ (castling_row c).king_from → t ≡ (castling_row c).king_to → files_apart f t ≡ 2
class_of_castling WhiteShort f t a b = omega arith
class_of_castling c f t a b = omega arith

pub castling_one : (c d : Castling) → (castling_row c).king_to ≡ (castling_row d).king_to → c ≡ d
castling_one WhiteShort WhiteShort e = refl
castling_one WhiteLong WhiteLong e = refl
castling_one BlackShort BlackShort e = refl
castling_one BlackLong BlackLong e = refl
castling_one c d e = absurd (omega arith)

-- what is found passes the test
passes_either : {X : Type 0} (test : X → Bool) (y x : X) (later : Option X) (first : Bool) → test y ≡ first → (later ≡ Some x → test x ≡ true) → cond first (Some y) later ≡ Some x → test x ≡ true
passes_either test y x later true passes more e = let same : y ≡ x = cc in cc
passes_either test y x later false fails more e = more e

found_passes : {X : Type 0} (test : X → Bool) (xs : List X) (x : X) → find test xs ≡ Some x → test x ≡ true
found_passes test [] x e = absurd (cc)
found_passes test (y ∷ xs) x e = passes_either test y x (find test xs) (test y) refl (found_passes test xs x) e

-- the castling that is found by its king's squares has them
pub castling_found : (from to : ℕ) (c : Castling) → castling_of from to ≡ Some c → (from ≡ (castling_row c).king_from) × (to ≡ (castling_row c).king_to)
castling_found from to c e =
    let row = castling_row c in
    let both = and_parts (row.king_from == from) (row.king_to == to) (found_passes (λ d. (castling_row d).king_from == from && (castling_row d).king_to == to) castlings c e) in
    (sym (eqb-true row.king_from from both.0), sym (eqb-true row.king_to to both.1))

pub found_by : (c : Castling) (from to : ℕ) → from ≡ (castling_row c).king_from → to ≡ (castling_row c).king_to → castling_of from to ≡ Some c
found_by WhiteShort from to f t = rw (f, t) refl
found_by WhiteLong from to f t = rw (f, t) refl
found_by BlackShort from to f t = rw (f, t) refl
found_by BlackLong from to f t = rw (f, t) refl

-- the same of those that are found by where king and rook begin
pub home_found : (king rook : ℕ) (c : Castling) → castling_from_home king rook ≡ Some c → (king ≡ (castling_row c).king_from) × (rook ≡ (castling_row c).rook_from)
home_found king rook c e =
    let row = castling_row c in
    let both = and_parts (row.king_from == king) (row.rook_from == rook) (found_passes (λ d. (castling_row d).king_from == king && (castling_row d).rook_from == rook) castlings c e) in
    (sym (eqb-true row.king_from king both.0), sym (eqb-true row.rook_from rook both.1))

pub home_is : (c : Castling) (king : ℕ) → king ≡ (castling_row c).king_from → castling_from_home king (castling_row c).rook_from ≡ Some c
home_is WhiteShort king e = rw e refl
home_is WhiteLong king e = rw e refl
home_is BlackShort king e = rw e refl
home_is BlackLong king e = rw e refl

pub home_is_far : (c : Castling) (king rook : ℕ) → king ≡ (castling_row c).king_from → rook ≡ (castling_row c).rook_from → 2 < files_apart king rook
home_is_far WhiteShort king rook a b = omega arith
home_is_far c king rook a b = omega arith

-- ---- the king's move of two files

pub castling_goes : (c : Castling) → is_castling (castling_row c).colour (moved_of (castling_row c).king_from (castling_row c).king_to None) ≡ true
castling_goes WhiteShort = refl
castling_goes WhiteLong = refl
castling_goes BlackShort = refl
castling_goes BlackLong = refl

pub rook_begins : (c : Castling) → rook_home (moved_of (castling_row c).king_from (castling_row c).king_to None) ≡ (castling_row c).rook_from
rook_begins WhiteShort = refl
rook_begins WhiteLong = refl
rook_begins BlackShort = refl
rook_begins BlackLong = refl

-- the castling of a side between these squares
pub record IsByRow (side : Colour) (from to : ℕ) (c : Castling) : Type 0 where
  pub side_is : side ≡ (castling_row c).colour
  pub from_is : from ≡ (castling_row c).king_from
  pub to_is : to ≡ (castling_row c).king_to

-- either way a castling of its side, short or long
two_files : (m : Moved) (home : ℕ) → (m.from == home && (m.to == m.from + 2 || m.from == m.to + 2)) ≡ true → (m.from ≡ home) × ((m.to ≡ m.from + 2) ⊎ (m.from ≡ m.to + 2))
two_files m home h =
    let both = and_parts (m.from == home) (m.to == m.from + 2 || m.from == m.to + 2) h in (
      eqb-true m.from home both.0,
      elim (or_cases (m.to == m.from + 2) (m.from == m.to + 2) both.1) [
        | inl short ↦ inl (eqb-true m.to (m.from + 2) short)
        | inr long ↦ inr (eqb-true m.from (m.to + 2) long)
      ],
    )

pub by_row : (side : Colour) (m : Moved) → is_castling side m ≡ true → (c : Castling) × IsByRow side m.from m.to c
by_row White m h =
    let is = two_files m 4 h in
    let from = is.0 in
    elim is.1 [
      | inl two ↦ (WhiteShort, record { side_is = refl; from_is = from; to_is = omega (arith, from, two) })
      | inr two ↦ (WhiteLong, record { side_is = refl; from_is = from; to_is = omega (arith, from, two) })
    ]
by_row Black m h =
    let is = two_files m 60 h in
    let from = is.0 in
    elim is.1 [
      | inl two ↦ (BlackShort, record { side_is = refl; from_is = from; to_is = omega (arith, from, two) })
      | inr two ↦ (BlackLong, record { side_is = refl; from_is = from; to_is = omega (arith, from, two) })
    ]

pub rook_home_is : (side : Colour) (m : Moved) (c : Castling) → IsByRow side m.from m.to c → rook_home m ≡ (castling_row c).rook_from
rook_home_is side m c is =
    let row = castling_row c in
    ap (λ (a : ℕ). rook_home (moved_of a m.to None)) is.from_is ∙ ap (λ (b : ℕ). rook_home (moved_of row.king_from b None)) is.to_is ∙ rook_begins c

-- a near move is none
pub near_is_none : (side : Colour) (m : Moved) → files_apart m.from m.to ≤ 1 → is_castling side m ≡ false
near_is_none side m near = none (is_castling side m) refl
  where
    none : (b : Bool) → is_castling side m ≡ b → b ≡ false
    none false is = refl
    none true is =
        let x = by_row side m is in
        absurd (let two = class_of_castling x.0 m.from m.to x.1.from_is x.1.to_is in omega arith)

-- ---- what castling asks for

-- what castling asks of the right, the rook and the squares, by the row
abbrev pub Asks : CastlingRow → Position → Type 0
Asks row s = IsTrue (row.right s.rights) × Holds s.board row.rook_from (rook_of row.colour) × Clear s.board row.king_from row.rook_from
    × (¬ IsAttacked s.board (opponent row.colour) row.king_from) × (¬ IsAttacked s.board (opponent row.colour) row.rook_to)

-- and by the squares between which the king of a side goes
abbrev AsksFor : Position → Colour → ℕ → ℕ → Type 0
AsksFor s side from to = let m : Moved = moved_of from to None in
    IsTrue (has_right s.rights side (nat_lt from to)) × Holds s.board (rook_home m) (rook_of side) × Clear s.board from (rook_home m)
    × (¬ IsAttacked s.board (opponent side) from) × (¬ IsAttacked s.board (opponent side) (middle m))

asks_same : (c : Castling) (s : Position) → Asks (castling_row c) s ↔ AsksFor s (castling_row c).colour (castling_row c).king_from (castling_row c).king_to
asks_same WhiteShort s = ((λ h. h), λ h. h)
asks_same WhiteLong s = ((λ h. h), λ h. h)
asks_same BlackShort s = ((λ h. h), λ h. h)
asks_same BlackLong s = ((λ h. h), λ h. h)

along : (P : Colour → ℕ → ℕ → Type 0) (c d : Colour) (a b x y : ℕ) → c ≡ d → a ≡ x → b ≡ y → P c a b → P d x y
along P c d a b x y e f g h = subst (λ (z : Colour). P z x y) e (subst (λ (z : ℕ). P c z y) f (subst (λ (z : ℕ). P c a z) g h))

pub castles_by : (c : Castling) (s : Position) (m : Moved) → IsByRow s.turn m.from m.to c → Asks (castling_row c) s → Castles s m
castles_by c s m is h =
    let row = castling_row c in
    let asks = along (AsksFor s) row.colour s.turn row.king_from row.king_to m.from m.to (sym is.side_is) (sym is.from_is) (sym is.to_is) ((asks_same c s).0 h) in
    let G : Colour → ℕ → ℕ → Type 0 = λ side a b. IsTrue (is_castling side (moved_of a b None)) in
    record {
      goes = along G row.colour s.turn row.king_from row.king_to m.from m.to (sym is.side_is) (sym is.from_is) (sym is.to_is) (castling_goes c);
      right = asks.0;
      rook = asks.1;
      way = asks.2;
      unchecked = asks.3;
      crosses = asks.4;
    }

pub asked_by : (c : Castling) (s : Position) (m : Moved) → IsByRow s.turn m.from m.to c → Castles s m → Asks (castling_row c) s
asked_by c s m is h =
    let row = castling_row c in
    (asks_same c s).1 (along (AsksFor s) s.turn row.colour m.from m.to row.king_from row.king_to is.side_is is.from_is is.to_is (h.right, h.rook, h.way, h.unchecked, h.crosses))

-- the squares of the king tell the row
pub row_told : (c : Castling) (s : Position) (m : Moved) → m.from ≡ (castling_row c).king_from → m.to ≡ (castling_row c).king_to → Castles s m → IsByRow s.turn m.from m.to c
row_told c s m from to h =
    let found = by_row s.turn m h.goes in
    let same = castling_one found.0 c (sym found.1.to_is ∙ to) in
    subst (IsByRow s.turn m.from m.to) same found.1
