-- The plies that count, and the book that is made of them. T is the basis, S the list of
-- submissions, and G has for each ply that counts what it gives.
use Rattle.std.specs.Prelude.{◌≡◌, ℕ, ◌≤◌, ◌↔◌, ◌&&◌, ◌==◌, List, Option, map, take, sum_by}
use Rattle.std.specs.Prelude.{count_by, AllPairs, Contains, if◌then◌else◌}
use Rattle.std.specs.List.{filter, flat_map}
use Rattle.pb_board.specs.declared.piece.Colour.{Colour}
use Rattle.pb_board.specs.declared.piece.Colour.TheVariants as side
use Rattle.pb_moves.specs.Played.{Ply}
use Rattle.pb_poly.specs.Key.{key}
use Rattle.pb_poly.specs.Code.{encode_move}
use Rattle.pb_poly.specs.declared.book.Entry.{Entry}
use Rattle.pb_games.specs.declared.game.Outcome.{Outcome}
use Rattle.pb_games.specs.declared.game.Outcome.TheVariants.{White, Black, Draw}
use Rattle.pb_games.specs.Submissions.{Submission, plies}
use Rattle.pb_points.specs.TallyBook.{is_within}
use Rattle.pb_points.specs.Weight.{scaled, Before}
use Rattle.pb_accepted.specs.Rules.{Basis}
use Rattle.pb_accepted.specs.declared.ply_points.PlyPoints.{PlyPoints}

-- the points of a ply, by the result and the side that moved: 2 where it won, 1 for a draw, 0 where
-- it lost
abbrev pub points_for : Outcome → Colour → ℕ
points_for White side.White = 2
points_for Black side.Black = 2
points_for Draw _ = 1
points_for _ _ = 0

-- what a ply gives: its points, to the key of its setup and the code of its move
abbrev pub given_by : List ℕ → Outcome → Ply → PlyPoints
given_by randoms o p =
    record { key = key randoms p.0; code = encode_move p.0 p.1; points = points_for o p.0.turn }

-- what each ply gives that counts: these are the first ones of each game
abbrev pub counted : Basis → List Submission → List PlyPoints
counted T S =
    flat_map (λ s. map (given_by T.randoms s.1.outcome) (take T.rules.plies (plies s.1))) S

-- how often a key and a code occur
abbrev pub times : List PlyPoints → ℕ → ℕ → ℕ
times G k c = count_by (λ p. p.key == k && p.code == c) G

-- their count: the sum of their points
abbrev pub count : List PlyPoints → ℕ → ℕ → ℕ
count G k c = sum_by (λ p. if p.key == k && p.code == c then p.points else 0) G

-- M is the greatest count under the key, over the codes that occur often enough under it
pub record IsGreatest (G : List PlyPoints) (least k M : ℕ) : Type 0 where
  pub above : (c : ℕ) → least ≤ times G k c → count G k c ≤ M
  pub met : (c : ℕ) × (least ≤ times G k c) × (count G k c ≡ M)

-- the entries are the book: one for each key and code that occur often enough, with the weight that
-- is their count, scaled by the greatest one under the key; where the weight is 0 there is none
pub record IsBook (G : List PlyPoints) (least : ℕ) (E : List Entry) : Type 0 where
  pub ordered : AllPairs Before E
  pub members : (e : Entry) → Contains E e ↔ ((least ≤ times G e.key e.code)
      × ((M : ℕ) × IsGreatest G least e.key M × (e.weight ≡ scaled (count G e.key e.code) M))
      × (1 ≤ e.weight) × (e.learn ≡ 0))

-- the entries are the book of these games
abbrev pub IsBookOf : Basis → List Submission → List Entry → Type 0
IsBookOf T S E = IsBook (counted T S) T.rules.least E

-- the entries of a book whose keys are in the stretch that begins with `first` and ends before the
-- next one, if there is one
abbrev pub stretch : ℕ → Option ℕ → List Entry → List Entry
stretch first next entries = filter (λ e. is_within first next e.key) entries
