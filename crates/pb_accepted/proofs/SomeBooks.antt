-- Plies that count have a book, and the entries of a ledger's are in their ranges.
use Rattle.std.proofs.Common.{◌≡◌, ℕ, ◌*◌, ◌/◌, ◌<◌, ◌≤◌, ◌^◌, ◌↔◌, nat_le, zero, suc, Bool, true, false, cond, Option, Some, None, unwrap_or, List, [], ◌∷◌, map, take, All, Contains, refl, ap, subst, ◌∙◌, inl, inr, arith}
use Rattle.std.specs.Prelude.{sum_by}
use Rattle.std.specs.Option.{option_map_or}
use Rattle.std.proofs.Math.Nat.{div-le_of_le-mul}
use Rattle.std.proofs.lemmas.Bool.{cases_lt, leb-true}
use Rattle.std.proofs.lemmas.List.Elements.{All-append, All-contains, All-head, All-map, All-tail}
use Rattle.std.proofs.lemmas.List.Sums.{sum_by-cons}
use Rattle.pb_board.specs.declared.piece.Kind.{Kind}
use Rattle.pb_board.specs.declared.piece.Kind.TheVariants.{Pawn, Knight, Bishop, Rook, Queen, King}
use Rattle.pb_board.specs.Piece.{kind_number}
use Rattle.pb_board.specs.Position.{Position}
use Rattle.pb_moves.specs.Moved.{IsMove, Moved}
use Rattle.pb_moves.specs.Played.{Ply, plies_from}
use Rattle.pb_moves.specs.Successor.{after}
use Rattle.pb_poly.specs.declared.book.Entry.{Entry}
use Rattle.pb_poly.specs.Code.{encode_move}
use Rattle.pb_poly.specs.Entry.{IsEntry}
use Rattle.pb_poly.specs.Key.{key, offsets}
use Rattle.pb_poly.specs.Table.{IsTable}
use Rattle.pb_poly.proofs.Codes.{encoded_on_board}
use Rattle.pb_poly.proofs.Parity.{toggled_below}
use Rattle.pb_games.specs.Submissions.{IsSubmission, Submission, plies}
use Rattle.pb_points.specs.declared.row.Row.{Row}
use Rattle.pb_points.specs.Rows.{frequent}
use Rattle.pb_points.specs.Tally.{Content, Held, held_of, is_pair, nothing}
use Rattle.pb_points.specs.Weight.{scaled}
use Rattle.pb_board.proofs.Elements.{all_of, contains_cases, contains_head, contains_tail}
use Rattle.pb_points.proofs.Pairs.{is_pair_same}
use Rattle.pb_points.proofs.SomeBooks.{some_book}
use Rattle.pb_accepted.specs.Rules.{Basis}
use Rattle.pb_accepted.specs.Counting.{IsBook, count, counted, given_by, times}
use Rattle.pb_accepted.specs.Ledger.{IsLedger, LedgerState}
use Rattle.pb_accepted.specs.declared.ply_points.PlyPoints.{PlyPoints}
use Rattle.pb_accepted.proofs.Books.{IsBook-rows}
use Rattle.pb_accepted.proofs.Frequent.{frequent_rows}
use Rattle.pb_accepted.proofs.GivenPoints.{counted_of, one}

-- ---- elements

module _ {X : Type 0} where
  some_of_sum : (f : X → ℕ) (xs : List X) → 1 ≤ sum_by f xs → (x : X) × Contains xs x × (1 ≤ f x)
  some_of_sum f [] some = absurd (omega (arith, some))
  some_of_sum f (x ∷ xs) some = elim (cases_lt 0 (f x)) [
    | inl here ↦ (x, contains_head x xs, omega arith)
    | inr none ↦
        let rest = some_of_sum f xs (omega (arith, sum_by-cons f x xs, some, none)) in
        (rest.0, contains_tail x xs rest.0 rest.1, rest.2)
  ]

  contains_map : {Y : Type 0} (f : X → Y) (xs : List X) (x : X) → Contains xs x → Contains (map f xs) (f x)
  contains_map f [] x h = absurd (omega (arith, h.1))
  contains_map f (y ∷ ys) x h = elim (contains_cases y ys x h) [
    | inl here ↦ subst (λ z. Contains (f y ∷ map f ys) (f z)) here (contains_head (f y) (map f ys))
    | inr later ↦ contains_tail (f y) (map f ys) (f x) (contains_map f ys x later)
  ]

  contains_take : (n : ℕ) (xs : List X) (x : X) → Contains (take n xs) x → Contains xs x
  contains_take zero xs x h = absurd (omega (arith, h.1))
  contains_take (suc n) [] x h = h
  contains_take (suc n) (y ∷ ys) x h = elim (contains_cases y (take n ys) x h) [
    | inl here ↦ subst (Contains (y ∷ ys)) here (contains_head y ys)
    | inr later ↦ contains_tail y ys x (contains_take n ys x later)
  ]

-- ---- a ply of what occurs

one_true : (b : Bool) → 1 ≤ cond b 1 0 → b ≡ true
one_true true some = refl
one_true false some = absurd (omega (arith, some))

pub ply_of : (G : List PlyPoints) (k c : ℕ) → 1 ≤ times G k c → (p : PlyPoints) × Contains G p × (p.key ≡ k) × (p.code ≡ c)
ply_of G k c some =
    let p = some_of_sum (one k c) G some in
    let is = is_pair_same p.0.key p.0.code k c (one_true (is_pair p.0.key p.0.code k c) p.2) in
    (p.0, p.1, is.0, is.1)

-- ---- a book

module _ (G : List PlyPoints) (least : ℕ) (some : 1 ≤ least) where
  abbrev row_of : ℕ → ℕ → Row
  row_of k c = record { key = k; code = c; points = count G k c; times = times G k c }

  abbrev held_all : Content
  held_all k c = Some (record { points = count G k c; times = times G k c })

  abbrev ply_row : PlyPoints → Row
  ply_row p = row_of p.key p.code

  abbrev rows : List Row
  rows = map ply_row G

  are_rows : All (λ r. row_of r.key r.code ≡ r) rows
  are_rows = All-map (λ r. row_of r.key r.code ≡ r) ply_row G (λ j d lt. refl)

  each : (r : Row) → Contains (frequent least rows) r ↔ ((held_all r.key r.code ≡ Some (held_of r)) × (least ≤ r.times))
  each r = (
    λ h.
        let k = (frequent_rows least rows r).0 h in
        (ap (λ x. Some (held_of x)) (All-contains (λ r. row_of r.key r.code ≡ r) rows r are_rows k.0), k.1),
    λ h.
        let is : row_of r.key r.code ≡ r = ap (λ (o : Option Held). record { key = r.key; code = r.code; points = (unwrap_or o nothing).points; times = (unwrap_or o nothing).times }) h.0 in
        let often : times G r.key r.code ≡ r.times = ap (λ (x : Row). x.times) is in
        let p = ply_of G r.key r.code (omega (arith, some, h.1, often)) in
        let same : ply_row p.0 ≡ r = (λ i. row_of (p.2 i) (p.3 i)) ∙ is in
        (frequent_rows least rows r).1 (subst (Contains rows) same (contains_map ply_row G p.0 p.1), h.1),
  )

  pub some_book_of : (E : List Entry) × IsBook G least E
  some_book_of =
      let book = some_book (frequent least rows) in
      (book.0, IsBook-rows G least held_all (frequent least rows) some (λ k c. refl) each book.0 book.1)

-- ---- the ranges of its entries

key_below : (words : List ℕ) (s : Position) → IsTable words → key words s < 2 ^ 64
unfolding key
key_below words s table = toggled_below words 0 (offsets s) table (omega arith)

promo_below : (o : Option Kind) → option_map_or kind_number o 0 ≤ 5
promo_below None = omega arith
promo_below (Some Pawn) = omega arith
promo_below (Some Knight) = omega arith
promo_below (Some Bishop) = omega arith
promo_below (Some Rook) = omega arith
promo_below (Some Queen) = omega arith
promo_below (Some King) = omega arith

code_below : (s : Position) (m : Moved) → IsMove m → encode_move s m < 2 ^ 16
code_below s m is = omega (arith, encoded_on_board s m is.to_on_board, is.from_on_board, promo_below m.promo)

-- the moves of plies are those that are played
moves_of_plies : (s : Position) (ms : List Moved) (p : Ply) → Contains (plies_from s ms) p → Contains ms p.1
moves_of_plies s [] p h = absurd (omega (arith, h.1))
moves_of_plies s (m ∷ ms) p h = elim (contains_cases (s, m) (plies_from (after s m) ms) p h) [
  | inl here ↦ subst (λ (q : Ply). Contains (m ∷ ms) q.1) here (contains_head m ms)
  | inr later ↦ contains_tail m ms p.1 (moves_of_plies (after s m) ms p later)
]

scaled-le : (n M : ℕ) → n ≤ M → scaled n M ≤ 65535
scaled-le n M le = by (nat_le M 65535) refl
  where
    by : (b : Bool) → nat_le M 65535 ≡ b → scaled n M ≤ 65535
    by true e = omega (arith, le, leb-true M 65535 e, ap (λ b. cond b n ((n * 65535) / M)) e)
    by false e =
        let low : (n * 65535) / M ≤ 65535 = div-le_of_le-mul M (omega (arith, le)) in
        omega (arith, low, ap (λ b. cond b n ((n * 65535) / M)) e)

-- keys and codes are in their ranges
abbrev Fits : PlyPoints → Type 0
Fits p = (p.key < 2 ^ 64) × (p.code < 2 ^ 16)

fits_of : (T : Basis) → IsTable T.randoms → (s : Submission) → IsSubmission s → All Fits (counted_of T s)
fits_of T table s legal =
    let first = take T.rules.plies (plies s.1) in
    All-map Fits (given_by T.randoms s.1.outcome) first (all_of (λ (p : Ply). Fits (given_by T.randoms s.1.outcome p)) first (λ p here.
    let move : IsMove p.1 = All-contains IsMove s.1.moves p.1 legal.game.moves (moves_of_plies s.1.start.setup s.1.moves p (contains_take T.rules.plies (plies s.1) p here)) in
    (key_below T.randoms p.0 table, code_below p.0 p.1 move)))

fits : (T : Basis) → IsTable T.randoms → (S : List Submission) → All IsSubmission S → All Fits (counted T S)
fits T table [] legal = λ j d lt. absurd (omega (arith, lt))
fits T table (s ∷ S) legal = All-append Fits (counted_of T s) (counted T S) (fits_of T table s (All-head IsSubmission s S legal)) (fits T table S (All-tail IsSubmission s S legal))

pub book_bounds : (l : LedgerState) → IsLedger l → (E : List Entry) → IsBook (counted l.basis l.accepted) l.basis.rules.least E → All IsEntry E
book_bounds l is E book = all_of IsEntry E (λ e here.
    let G = counted l.basis l.accepted in
    let m = (book.members e).0 here in
    let p = ply_of G e.key e.code (omega (arith, m.0, is.counting.least.0)) in
    let small = All-contains Fits G p.0 (fits l.basis is.table l.accepted is.games) p.1 in
    record {
      key = subst (λ n. n < 2 ^ 64) p.2 small.0;
      code = subst (λ n. n < 2 ^ 16) p.3 small.1;
      weight = omega (arith, m.1.2, scaled-le (count G e.key e.code) m.1.0 (m.1.1.above e.code m.0));
      learn = omega (arith, m.3);
    })

-- a ledger has a book
pub some_book_of_ledger : (l : LedgerState) → IsLedger l → (E : List Entry) × IsBook (counted l.basis l.accepted) l.basis.rules.least E × All IsEntry E
some_book_of_ledger l is =
    let book = some_book_of (counted l.basis l.accepted) l.basis.rules.least is.counting.least.0 in
    (book.0, book.1, book_bounds l is book.0 book.1)
