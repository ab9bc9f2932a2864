-- What the plies of a game give, and what plies do to a tally, one after another.
use Rattle.std.proofs.Common.{◌++◌, suc, ◌≡◌, ℕ, ◌+◌, ◌*◌, ◌<◌, ◌≤◌, ◌^◌, Bool, true, false, not, cond, if◌then◌else◌, Option, Some, IsSome, unwrap_or, List, [], ◌∷◌, map, take, length, get_or, All, refl, sym, ap, subst, ◌∙◌, inl, inr, arith, true≢false}
use Rattle.std.proofs.Math.Bool.{not-not}
use Rattle.std.proofs.lemmas.Bool.{cases_lt}
use Rattle.std.proofs.lemmas.Grind.{flat_map-append}
use Rattle.std.proofs.lemmas.List.{append_assoc, append-nil, get_or_default, length-append, length-map, length-take, take-map}
use Rattle.std.proofs.lemmas.List.Concat.{length-flat_map}
use Rattle.std.proofs.lemmas.List.Elements.{All-append, All-map, filter_more}
use Rattle.std.proofs.lemmas.List.Filters.{sum_by-filter_both}
use Rattle.std.proofs.lemmas.List.Sums.{count_by_more_yes, length-filter, sum_by-append, sum_by-cons, sum_by_more_le, sum_by-le, sum_by-take-le}
use Rattle.pb_board.specs.declared.piece.Colour.{Colour}
use Rattle.pb_board.specs.declared.piece.Colour.TheVariants as side
use Rattle.pb_board.specs.Position.{Position}
use Rattle.pb_moves.specs.Moved.{Moved}
use Rattle.pb_moves.specs.Successor.{after}
use Rattle.pb_moves.specs.Played.{plies_from}
use Rattle.pb_poly.specs.Key.{key}
use Rattle.pb_games.specs.declared.game.Game.{Game}
use Rattle.pb_games.specs.declared.game.Outcome.{Outcome}
use Rattle.pb_games.specs.declared.game.Outcome.TheVariants.{White, Black, Draw}
use Rattle.pb_games.specs.Submissions.{IsSubmission, Submission, plies}
use Rattle.pb_points.proofs.Pairs.{is_pair_itself}
use Rattle.pb_points.specs.Tally.{AddsPly, Content, HasRoomFor, Held, MakesRow, held, is_pair, more, nothing}
use Rattle.pb_accepted.specs.declared.ply_points.PlyPoints.{PlyPoints}
use Rattle.pb_accepted.specs.Rules.{Basis}
use Rattle.pb_accepted.specs.Counting.{count, counted, given_by, points_for, times}
use Rattle.pb_accepted.specs.Ledger.{is_lost, lost, rowed, with_ply_points}

-- ---- the plies of a game

pub length-plies_from : (s : Position) (ms : List Moved) → length (plies_from s ms) ≡ length ms
length-plies_from s [] = refl
length-plies_from s (m ∷ ms) = ap suc (length-plies_from (after s m) ms)

-- the moves of plies
pub moves_back : (s : Position) (ms : List Moved) → map (λ p. p.1) (plies_from s ms) ≡ ms
moves_back s [] = refl
moves_back s (m ∷ ms) = ap (λ rest. m ∷ rest) (moves_back (after s m) ms)

-- what the plies of one game give that count
abbrev pub counted_of : Basis → Submission → List PlyPoints
counted_of T s = map (given_by T.randoms s.1.outcome) (take T.rules.plies (plies s.1))

pub counted_one : (T : Basis) (s : Submission) → counted T (s ∷ []) ≡ counted_of T s
counted_one T s = append-nil (counted_of T s)

-- one game more gives what it gives alone
pub counted_more : (T : Basis) (A : List Submission) (s : Submission) → counted T (A ++ s ∷ []) ≡ counted T A ++ counted T (s ∷ [])
counted_more T A s = flat_map-append (counted_of T) A (s ∷ [])

-- no more plies than moves
length-counted_of : (T : Basis) (s : Submission) → length (counted_of T s) ≤ length s.1.moves
length-counted_of T s =
    let many = length-map (take T.rules.plies (plies s.1)) (given_by T.randoms s.1.outcome) in
    omega (arith, many, length-take T.rules.plies (plies s.1), length-plies_from s.1.start.setup s.1.moves)

pub length-counted_one : (T : Basis) (s : Submission) → length (counted T (s ∷ [])) ≤ length s.1.moves
length-counted_one T s = omega (arith, ap length (counted_one T s), length-counted_of T s)

-- each game has at most 1,024 of them
pub length-counted : (T : Basis) (A : List Submission) → All IsSubmission A → length (counted T A) ≤ length A * 1024
length-counted T A games = omega (
  arith,
  length-flat_map (counted_of T) A,
  sum_by-le (λ s. length (counted_of T s)) 1024 A (λ j d lt. omega (arith, length-counted_of T (get_or A j d), (games j d lt).game.few)),
)

-- what the first plies of a game give is what its plies give that count
pub counted_ply_points : (T : Basis) (words : List ℕ) (s : Submission) (g : Game) (all first : List PlyPoints) → words ≡ T.randoms → s.1 ≡ g
    → all ≡ map (given_by words g.outcome) (plies g) → first ≡ take T.rules.plies all → first ≡ counted T (s ∷ [])
counted_ply_points T words s g all first same is are cut =
    cut ∙ ap (take T.rules.plies) (are ∙ (λ i. map (given_by (same i) (sym is i).outcome) (plies (sym is i))))
    ∙ take-map (given_by T.randoms s.1.outcome) T.rules.plies (plies s.1) ∙ sym (counted_one T s)

points_for-le : (o : Outcome) (side : Colour) → points_for o side ≤ 2
points_for-le White side.White = omega arith
points_for-le White side.Black = omega arith
points_for-le Black side.White = omega arith
points_for-le Black side.Black = omega arith
points_for-le Draw side.White = omega arith
points_for-le Draw side.Black = omega arith

-- no ply has more than two points
small_of : (T : Basis) (s : Submission) → All (λ r. r.points ≤ 2) (counted_of T s)
small_of T s =
    let first = take T.rules.plies (plies s.1) in
    All-map (λ (r : PlyPoints). r.points ≤ 2) (given_by T.randoms s.1.outcome) first (λ j p lt. points_for-le s.1.outcome (get_or first j p).0.turn)

pub small_ply_points : (T : Basis) (A : List Submission) → All (λ r. r.points ≤ 2) (counted T A)
small_ply_points T [] = λ j d lt. absurd (omega (arith, lt))
small_ply_points T (s ∷ A) = All-append (λ (r : PlyPoints). r.points ≤ 2) (counted_of T s) (counted T A) (small_of T s) (small_ply_points T A)

-- the points that a ply gives to this key and this code
abbrev pub share : ℕ → ℕ → PlyPoints → ℕ
share k c r = if is_pair r.key r.code k c then r.points else 0

pub share-le : (k c : ℕ) (r : PlyPoints) → share k c r ≤ r.points
share-le k c r = by (is_pair r.key r.code k c)
  where
    by : (b : Bool) → (if b then r.points else 0) ≤ r.points
    by true = omega arith
    by false = omega arith

-- plies of at most two points add at most two each
pub count-le : (G : List PlyPoints) (k c : ℕ) → All (λ r. r.points ≤ 2) G → count G k c ≤ length G * 2
count-le G k c small = sum_by-le (share k c) 2 G (λ j d lt. omega (arith, share-le k c (get_or G j d), small j d lt))

-- whether a ply is of this key and this code, as a number
abbrev pub one : ℕ → ℕ → PlyPoints → ℕ
one k c r = cond (is_pair r.key r.code k c) 1 0

one-le : (k c : ℕ) (r : PlyPoints) → one k c r ≤ 1
one-le k c r = by (is_pair r.key r.code k c)
  where
    by : (b : Bool) → cond b 1 0 ≤ 1
    by true = omega arith
    by false = omega arith

pub times-le : (G : List PlyPoints) (k c : ℕ) → times G k c ≤ length G
times-le G k c = let most = sum_by-le (one k c) 1 G (λ j d lt. one-le k c (get_or G j d)) in omega (arith, most)

-- counts of two lists of plies
pub count-append : (G H : List PlyPoints) (k c : ℕ) → count (G ++ H) k c ≡ count G k c + count H k c
count-append G H k c = sum_by-append (share k c) G H

pub times-append : (G H : List PlyPoints) (k c : ℕ) → times (G ++ H) k c ≡ times G k c + times H k c
times-append G H k c = sum_by-append (one k c) G H

-- ---- rows that are made

-- the row of the ply is there
abbrev pub IsThere : Content → PlyPoints → Type 0
IsThere f r = IsSome (f r.key r.code)

same_made : (f g : Content) (key code : ℕ) → MakesRow f g key code → (k c : ℕ) → held g k c ≡ held f k c
same_made f g key code made k c = ap (λ o. unwrap_or o nothing) (made k c) ∙ by (f k c) (is_pair key code k c)
  where
    by : (o : Option Held) (b : Bool) → unwrap_or (if b then Some (unwrap_or o nothing) else o) nothing ≡ unwrap_or o nothing
    by o true = refl
    by o false = refl

stays : (o : Option Held) (b : Bool) (h : Held) → IsSome o → IsSome (if b then Some h else o)
stays o true h there = refl
stays o false h there = there

-- the ply at an index
abbrev pub given_at : List PlyPoints → ℕ → PlyPoints
given_at ply_points i = get_or ply_points i (record { key = 0; code = 0; points = 0 })

-- from f to g what is held stayed, and the rows of the first `done` plies are there
pub record Ensured (least : ℕ) (f g : Content) (ply_points : List PlyPoints) (done : ℕ) : Type 0 where
  pub same : (k c : ℕ) → held g k c ≡ held f k c
  pub there : (j : ℕ) (d : PlyPoints) → j < done → j < length ply_points → is_lost least (get_or ply_points j d) ≡ false → IsThere g (get_or ply_points j d)

pub Ensured-none : (least : ℕ) (f : Content) (ply_points : List PlyPoints) → Ensured least f f ply_points 0
Ensured-none least f ply_points = record { same = λ k c. refl; there = λ j d lt _ _. absurd (omega (arith, lt)) }

-- at the next index is the ply that was looked at
at_next : (ply_points : List PlyPoints) (i j : ℕ) (d : PlyPoints) → j < i + 1 → i ≤ j → j < length ply_points → given_at ply_points i ≡ get_or ply_points j d
at_next ply_points i j d lt from within =
    let same : j ≡ i = omega (arith, lt, from) in
    ap (λ n. given_at ply_points n) (sym same) ∙ get_or_default ply_points j (record { key = 0; code = 0; points = 0 }) d within

pub Ensured-more : (least : ℕ) (f g h : Content) (ply_points : List PlyPoints) (i : ℕ) → Ensured least f g ply_points i → MakesRow g h (given_at ply_points i).key (given_at ply_points i).code → Ensured least f h ply_points (i + 1)
Ensured-more least f g h ply_points i e made = record { same = λ k c. same_made g h r.key r.code made k c ∙ e.same k c; there = there }
  where
    r : PlyPoints
    r = given_at ply_points i

    stays_there : (q : PlyPoints) → IsThere g q → IsThere h q
    stays_there q had = subst IsSome (sym (made q.key q.code)) (stays (g q.key q.code) (is_pair r.key r.code q.key q.code) (held g q.key q.code) had)

    now : IsThere h r
    now = subst IsSome (sym (made r.key r.code ∙ ap (λ b. if b then Some (held g r.key r.code) else g r.key r.code) (is_pair_itself r.key r.code))) refl

    there : (j : ℕ) (d : PlyPoints) → j < i + 1 → j < length ply_points → is_lost least (get_or ply_points j d) ≡ false → IsThere h (get_or ply_points j d)
    there j d lt within has = elim (cases_lt j i) [
      | inl before ↦ stays_there (get_or ply_points j d) (e.there j d before within has)
      | inr from ↦ subst (IsThere h) (at_next ply_points i j d lt from within) now
    ]

-- a ply that needs no row
pub Ensured-lost : (least : ℕ) (f g : Content) (ply_points : List PlyPoints) (i : ℕ) → is_lost least (given_at ply_points i) ≡ true → Ensured least f g ply_points i → Ensured least f g ply_points (i + 1)
Ensured-lost least f g ply_points i lacks e = record { same = e.same; there = there }
  where
    there : (j : ℕ) (d : PlyPoints) → j < i + 1 → j < length ply_points → is_lost least (get_or ply_points j d) ≡ false → IsThere g (get_or ply_points j d)
    there j d lt within has = elim (cases_lt j i) [
      | inl before ↦ e.there j d before within has
      | inr from ↦ absurd (true≢false (sym lacks ∙ ap (is_lost least) (at_next ply_points i j d lt from within) ∙ has))
    ]

-- ---- plies with rows, and others

module _ (least : ℕ) (ply_points : List PlyPoints) (i : ℕ) (lt : i < length ply_points) where
  rowed_more : is_lost least (given_at ply_points i) ≡ false → rowed least (take (i + 1) ply_points) ≡ rowed least (take i ply_points) ++ given_at ply_points i ∷ []
  rowed_more has = filter_more (λ p. not (is_lost least p)) ply_points i (record { key = 0; code = 0; points = 0 }) lt
      ∙ ap (λ b. rowed least (take i ply_points) ++ cond (not b) (given_at ply_points i ∷ []) []) has

  rowed_same : is_lost least (given_at ply_points i) ≡ true → rowed least (take (i + 1) ply_points) ≡ rowed least (take i ply_points)
  rowed_same lacks = filter_more (λ p. not (is_lost least p)) ply_points i (record { key = 0; code = 0; points = 0 }) lt
      ∙ ap (λ b. rowed least (take i ply_points) ++ cond (not b) (given_at ply_points i ∷ []) []) lacks ∙ append-nil (rowed least (take i ply_points))

  pub lost_more : is_lost least (given_at ply_points i) ≡ true → lost least (take (i + 1) ply_points) ≡ lost least (take i ply_points) ++ given_at ply_points i ∷ []
  lost_more lacks = filter_more (is_lost least) ply_points i (record { key = 0; code = 0; points = 0 }) lt
      ∙ ap (λ b. lost least (take i ply_points) ++ cond b (given_at ply_points i ∷ []) []) lacks

  pub lost_same : is_lost least (given_at ply_points i) ≡ false → lost least (take (i + 1) ply_points) ≡ lost least (take i ply_points)
  lost_same has = filter_more (is_lost least) ply_points i (record { key = 0; code = 0; points = 0 }) lt
      ∙ ap (λ b. lost least (take i ply_points) ++ cond b (given_at ply_points i ∷ []) []) has ∙ append-nil (lost least (take i ply_points))

-- plies with rows and others are all
pub count_parts : (least : ℕ) (G : List PlyPoints) (k c : ℕ) → count (rowed least G) k c + count (lost least G) k c ≡ count G k c
count_parts least G k c = sum_by-filter_both (λ p. not (is_lost least p)) (is_lost least) (λ p. sym (not-not (is_lost least p))) (share k c) G

pub times_parts : (least : ℕ) (G : List PlyPoints) (k c : ℕ) → times (rowed least G) k c + times (lost least G) k c ≡ times G k c
times_parts least G k c = sum_by-filter_both (λ p. not (is_lost least p)) (is_lost least) (λ p. sym (not-not (is_lost least p))) (one k c) G

-- ---- plies that are added

-- one list of plies after another
pub with_both : (G H : List PlyPoints) (k c : ℕ) (h : Held) → with_ply_points H k c (with_ply_points G k c h) ≡ with_ply_points (G ++ H) k c h
with_both G H k c h i =
    let points : h.points + count G k c + count H k c ≡ h.points + count (G ++ H) k c = omega (arith, count-append G H k c) in
    let times : h.times + times G k c + times H k c ≡ h.times + times (G ++ H) k c = omega (arith, times-append G H k c) in
    record { points = points i; times = times i }

-- from f to g and in the list beside the tally the first `done` plies were added, and the rows of
-- all are there
pub record Added (least : ℕ) (f g : Content) (old now ply_points : List PlyPoints) (done : ℕ) : Type 0 where
  pub sums : (k c : ℕ) → held g k c ≡ with_ply_points (rowed least (take done ply_points)) k c (held f k c)
  pub beside : now ≡ old ++ lost least (take done ply_points)
  pub there : All (λ r. is_lost least r ≡ false → IsThere g r) ply_points

with_none : (k c : ℕ) (h : Held) → h ≡ with_ply_points [] k c h
with_none k c h i =
    let points : h.points ≡ h.points + 0 = omega arith in
    let times : h.times ≡ h.times + 0 = omega arith in
    record { points = points i; times = times i }

pub Added-none : (least : ℕ) (f : Content) (old ply_points : List PlyPoints) → All (λ r. is_lost least r ≡ false → IsThere f r) ply_points → Added least f f old old ply_points 0
Added-none least f old ply_points there = record { sums = λ k c. with_none k c (held f k c); beside = sym (append-nil old); there = there }

own_share : (r : PlyPoints) → share r.key r.code r ≡ r.points
own_share r = ap (λ b. if b then r.points else 0) (is_pair_itself r.key r.code)

own_one : (r : PlyPoints) → one r.key r.code r ≡ 1
own_one r = ap (λ b. cond b 1 0) (is_pair_itself r.key r.code)

pub Added-fits : (least : ℕ) (f g : Content) (old now ply_points : List PlyPoints) (i : ℕ) → i < length ply_points → All (λ r. r.points ≤ 2) ply_points
    → ((k c : ℕ) → (held f k c).points + 2 * length ply_points ≤ 2 ^ 63) → ((k c : ℕ) → (held f k c).times + length ply_points ≤ 2 ^ 63) → Added least f g old now ply_points i
    → HasRoomFor (held g (given_at ply_points i).key (given_at ply_points i).code) (given_at ply_points i).points
Added-fits least f g old now ply_points i lt small points_fit times_fit e =
    let r = given_at ply_points i in
    let first = take i ply_points in
    let so_much : (held g r.key r.code).points ≡ (held f r.key r.code).points + count (rowed least first) r.key r.code = ap (λ (h : Held). h.points) (e.sums r.key r.code) in
    let so_often : (held g r.key r.code).times ≡ (held f r.key r.code).times + times (rowed least first) r.key r.code = ap (λ (h : Held). h.times) (e.sums r.key r.code) in
    let points : (held g r.key r.code).points + r.points ≤ 2 ^ 63 = omega (
      arith,
      so_much,
      count_parts least first r.key r.code,
      points_fit r.key r.code,
      sum_by_more_le (share r.key r.code) ply_points i (record { key = 0; code = 0; points = 0 }) lt,
      own_share r,
      count-le ply_points r.key r.code small,
    ) in
    let times : (held g r.key r.code).times + 1 ≤ 2 ^ 63 = omega (
      arith,
      so_often,
      times_parts least first r.key r.code,
      times_fit r.key r.code,
      sum_by_more_le (one r.key r.code) ply_points i (record { key = 0; code = 0; points = 0 }) lt,
      own_one r,
      times-le ply_points r.key r.code,
    ) in
    record { points = points; times = times }

-- a ply that has a row
pub Added-more : (least : ℕ) (f g h : Content) (old now ply_points : List PlyPoints) (i n : ℕ) → i < length ply_points → is_lost least (given_at ply_points i) ≡ false → n ≡ (given_at ply_points i).points
    → Added least f g old now ply_points i → AddsPly g h (given_at ply_points i).key (given_at ply_points i).code n → Added least f h old now ply_points (i + 1)
Added-more least f g h old now ply_points i n lt has is e adds = record {
  sums = sums;
  beside = e.beside ∙ ap (λ l. old ++ l) (sym (lost_same least ply_points i lt has));
  there = λ j d within there_j. stays_there (get_or ply_points j d) (e.there j d within there_j);
}
  where
    r : PlyPoints
    r = given_at ply_points i

    stays_there : (q : PlyPoints) → IsThere g q → IsThere h q
    stays_there q had = subst IsSome (sym (adds q.key q.code)) (stays (g q.key q.code) (is_pair r.key r.code q.key q.code) (more n (held g q.key q.code)) had)

    held_now : (o : Option Held) (b : Bool) → unwrap_or (if b then Some (more n (unwrap_or o nothing)) else o) nothing ≡ (if b then more n (unwrap_or o nothing) else unwrap_or o nothing)
    held_now o true = refl
    held_now o false = refl

    summed : (H : Held) (b : Bool) → (if b then more n H else H) ≡ record { points = H.points + (if b then r.points else 0); times = H.times + cond b 1 0 }
    summed H true = λ j. record { points = H.points + is j; times = H.times + 1 }
    summed H false = with_none 0 0 H

    alone : (k c : ℕ) (H : Held) → (if is_pair r.key r.code k c then more n H else H) ≡ with_ply_points (r ∷ []) k c H
    alone k c H =
        let b = is_pair r.key r.code k c in
        let points : (if b then r.points else 0) ≡ count (r ∷ []) k c = omega (arith, sum_by-cons (share k c) r []) in
        let times : cond b 1 0 ≡ times (r ∷ []) k c = omega (arith, sum_by-cons (one k c) r []) in
        summed H b ∙ (λ j. record { points = H.points + points j; times = H.times + times j })

    sums : (k c : ℕ) → held h k c ≡ with_ply_points (rowed least (take (i + 1) ply_points)) k c (held f k c)
    sums k c =
        let b = is_pair r.key r.code k c in
        let first = rowed least (take i ply_points) in
        ap (λ o. unwrap_or o nothing) (adds k c) ∙ held_now (g k c) b ∙ ap (λ x. if b then more n x else x) (e.sums k c)
        ∙ alone k c (with_ply_points first k c (held f k c)) ∙ with_both first (r ∷ []) k c (held f k c)
        ∙ ap (λ X. with_ply_points X k c (held f k c)) (sym (rowed_more least ply_points i lt has))

-- a ply that stands beside the tally
pub Added-lost : (least : ℕ) (f g : Content) (old now later ply_points : List PlyPoints) (i : ℕ) → i < length ply_points → is_lost least (given_at ply_points i) ≡ true
    → later ≡ now ++ given_at ply_points i ∷ [] → Added least f g old now ply_points i → Added least f g old later ply_points (i + 1)
Added-lost least f g old now later ply_points i lt lacks pushed e = record {
  sums = λ k c. e.sums k c ∙ ap (λ X. with_ply_points X k c (held f k c)) (sym (rowed_same least ply_points i lt lacks));
  beside = pushed ∙ ap (λ l. l ++ given_at ply_points i ∷ []) e.beside ∙ append_assoc old (lost least (take i ply_points)) (given_at ply_points i ∷ [])
      ∙ ap (λ l. old ++ l) (sym (lost_more least ply_points i lt lacks));
  there = e.there;
}

-- there is room for it
pub lost_fits : (least : ℕ) (old now ply_points : List PlyPoints) (i : ℕ) → i < length ply_points → is_lost least (given_at ply_points i) ≡ true → now ≡ old ++ lost least (take i ply_points)
    → length now + 1 ≤ length old + length (lost least ply_points)
lost_fits least old now ply_points i lt lacks are = omega (
  arith,
  ap length are,
  length-append old (lost least (take i ply_points)),
  length-filter (is_lost least) (take i ply_points),
  length-filter (is_lost least) ply_points,
  count_by_more_yes (is_lost least) ply_points i (record { key = 0; code = 0; points = 0 }) lt lacks,
  sum_by-take-le (λ p. cond (is_lost least p) 1 0) ply_points (i + 1),
)
