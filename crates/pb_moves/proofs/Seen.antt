-- Attacks, told by sets of squares.
use Rattle.std.proofs.Common.{◌≡◌, ◌≢◌, ℕ, ◌*◌, ◌%◌, ◌^◌, w64, ◌<◌, ◌⊎◌, ◌↔◌, arith, refl, sym, ap, subst, ◌∙◌, inl, inr, bit_and, bit_or, Option, Some, None, [], ◌∷◌}
use Rattle.std.specs.Int.{trailing_zeros}
use Rattle.std.proofs.lemmas.List.Elements.{All-nil, All-cons}
use Rattle.std.proofs.lemmas.Option.{same_Some}
use Rattle.pb_board.specs.declared.piece.Colour.{Colour}
use Rattle.pb_board.specs.declared.piece.Colour.TheVariants.{White, Black}
use Rattle.pb_board.specs.declared.piece.Kind.{Kind}
use Rattle.pb_board.specs.declared.piece.Kind.TheVariants.{Pawn, Knight, Bishop, Rook, Queen, King}
use Rattle.pb_board.specs.declared.piece.Piece.{Piece}
use Rattle.pb_board.specs.Board.{Board, at, Holds, IsForward, rank_for}
use Rattle.pb_board.specs.Piece.{piece_of}
use mir.Val.{bits}
use Rattle.std.proofs.lemmas.Bool.{cases_lt}
use Rattle.std.proofs.lemmas.Nat.{and_le_r}
use Rattle.std.proofs.lemmas.Nat.Bits.{bit_at_set_same, bit_at_set_other}
use Rattle.pb_moves.specs.declared.check.Sight.{Sight}
use Rattle.pb_moves.specs.Attackers.{IsSight, IsOccupied, In}
use Rattle.pb_moves.specs.Attacks.{Attacks, Clear, IsAttacked, IsBetween, Pattern, files_apart, ranks_apart}
use Rattle.pb_moves.specs.Candidate.{MayTarget, Aims, Steps}
use Rattle.pb_moves.specs.Successor.{Differs}
use Rattle.pb_moves.proofs.Differing.{All-two, each_place, holds_on_board, same_or_not}
use Rattle.pb_moves.proofs.Kings.{holds_one}
use Rattle.pb_moves.proofs.Rising.{low_bit, without, without_other, without_same}
use Rattle.pb_moves.proofs.Lines.{knight_from, no_near, straight_from, straight_to}
use Rattle.pb_moves.proofs.Sets.{in_and, in_both, in_none, in_some}

empty_or_not : (x : Option Piece) → (x ≡ None) ⊎ ¬ (x ≡ None)
empty_or_not None = inl refl
empty_or_not (Some p) = inr (λ e. cc)

-- ---- ways

-- one line leads from a to b
abbrev pub OnLine : ℕ → ℕ → Type 0
OnLine a b = Pattern Queen (files_apart a b) (ranks_apart a b)

-- the set has the squares between a and b, if these lie on one line
abbrev pub HasBetween : ℕ → ℕ → ℕ → Type 0
HasBetween set a b = (q : ℕ) → q < 64 → (In set q ↔ OnLine a b × IsBetween a q b)

-- nothing of what is taken lies between a and b on one line
abbrev pub Open : ℕ → ℕ → ℕ → Type 0
Open occ a b = OnLine a b → (q : ℕ) → q < 64 → IsBetween a q b → ¬ In occ q

pub open_told : (occ set a b : ℕ) → occ < 2 ^ 64 → HasBetween set a b → (bit_and set occ ≡ 0) ↔ Open occ a b
open_told occ set a b small has = (
  λ none line q on between stands. in_none (bit_and set occ) q none (in_both set occ q ((has q on).1 (line, between)) stands),
  λ way. elim (cases_lt 0 (bit_and set occ)) [
    | inl some ↦
        (let w = in_some (bit_and set occ) (omega (arith, and_le_r set occ)) some in
        let inside = in_and set occ w.0 w.2 in
        let between = (has w.0 w.1).0 inside.0 in
        absurd (way between.0 w.0 w.1 between.1 inside.1))
    | inr none ↦ omega arith
  ],
)

pub clear_if_open : (board : Board) (occ a b : ℕ) → IsOccupied occ board → Open occ a b → OnLine a b → Clear board a b
clear_if_open board occ a b taken way line q on between =
    elim (empty_or_not (at board q)) [
      | inl e ↦ e
      | inr stands ↦ absurd (way line q on between ((taken q on).1 stands))
    ]

pub open_if_clear : (board : Board) (occ a b : ℕ) → IsOccupied occ board → Clear board a b → Open occ a b
open_if_clear board occ a b taken clear line q on between inside = (taken q on).0 inside (clear q on between)

-- nothing lies in the way of a piece that jumps
pub clear_by : (kind : Kind) (board : Board) (a b : ℕ) → Pattern kind (files_apart a b) (ranks_apart a b) → (OnLine a b → Clear board a b) → Clear board a b
clear_by Pawn board a b h way = no_near board a b (inl (omega (arith, h.0), omega (arith, h.1)))
clear_by Knight board a b h way = no_near board a b (inr (knight_from (files_apart a b) (ranks_apart a b) h))
clear_by Bishop board a b h way = way (inl h.0, omega (arith, h.1))
clear_by Rook board a b h way = way (inr h.0, h.1)
clear_by Queen board a b h way = way h
clear_by King board a b h way = no_near board a b (inl (omega (arith, h), omega (arith, h)))

-- a piece that points at a square attacks it where the way is clear, as it is for a pawn
pub points_of : (side : Colour) (kind : Kind) (board : Board) (a b : ℕ) → Attacks side kind board a b → Aims side kind a b
points_of _ _ board a b h = (h.0, h.1)

pub attack_of : (side : Colour) (kind : Kind) (board : Board) (a b : ℕ) → Aims side kind a b → (OnLine a b → Clear board a b) → Attacks side kind board a b
attack_of side kind board a b h way = (h.0, h.1, clear_by kind board a b h.0 way)

pub pawn_attack : (side : Colour) (board : Board) (a b : ℕ) → Aims side Pawn a b → Attacks side Pawn board a b
pawn_attack side board a b h = (h.0, h.1, no_near board a b (inl (omega (arith, h.0.0), omega (arith, h.0.1))))

stepped : (side : Colour) (a b : ℕ) → IsForward side 1 a b ⊎ ((rank_for side a ≡ 1) × IsForward side 2 a b) → 0 < ranks_apart a b
stepped White a b (inl h) = omega (arith, h)
stepped White a b (inr h) = omega (arith, h.1)
stepped Black a b (inl h) = omega (arith, h)
stepped Black a b (inr h) = omega (arith, h.1)

-- the rows of pawns, told by what they take and step to
pub takes_told : (side : Colour) (a b : ℕ) → (MayTarget side Pawn a b × Pattern Bishop (files_apart a b) (ranks_apart a b)) ↔ Aims side Pawn a b
takes_told side a b = (
  λ h. elim h.0 [ inl points ↦ points | inr steps ↦ (let same = steps.1.0 in let slant = h.1 in absurd (omega arith)) ],
  λ points. (inl points, (omega (arith, points.0.0, points.0.1), omega (arith, points.0.0))),
)

pub steps_told : (side : Colour) (a b : ℕ) → (MayTarget side Pawn a b × Pattern Rook (files_apart a b) (ranks_apart a b)) ↔ Steps side a b
steps_told side a b = (
  λ h. elim h.0 [
    | inl points ↦ absurd (let straight = straight_from (files_apart a b) (ranks_apart a b) h.1.0 h.1.1 in elim straight [ inl s ↦ omega (arith, s.0, points.0.0) | inr s ↦ omega (arith, s.1, points.0.1) ])
    | inr steps ↦ steps.1
  ],
  λ steps. (inr (refl, steps), straight_to (files_apart a b) (ranks_apart a b) (inl (omega (arith, steps.0), stepped side a b steps.1))),
)

-- what may be reached is reached by the pattern of some kind
pub goes_as : (side : Colour) (kind : Kind) (a b : ℕ) → MayTarget side kind a b → (k : Kind) × Pattern k (files_apart a b) (ranks_apart a b)
goes_as side kind a b (inl points) = (kind, points.0)
goes_as side kind a b (inr steps) = (Rook, ((steps_told side a b).1 steps.1).1)

-- ---- attackers

-- the set has the squares of pieces that point at the square
abbrev pub HasPieces : ℕ → Board → Colour → ℕ → Type 0
HasPieces set board by square = (a : ℕ) → a < 64 → (In set a ↔ ((colour : Colour) × (kind : Kind) × Holds board a (piece_of colour kind) × Aims by kind a square))

-- a piece in the set points at the square by the pattern of its kind
pub points_at : (first : Board) (by : Colour) (sight : Sight) (set square a : ℕ) → HasPieces set first by square → a < 64 → In (bit_and set sight.attackers) a
    → (k : Kind) × Pattern k (files_apart a square) (ranks_apart a square)
points_at first by sight set square a has on inside = let points = (has a on).0 (in_and set sight.attackers a inside).0 in (points.1, points.3.0)

pub attacks_if_open : (first board : Board) (by : Colour) (sight : Sight) (set square a : ℕ) → IsSight first board by sight → HasPieces set first by square → a < 64
    → In (bit_and set sight.attackers) a → Open sight.occupied a square → IsAttacked board by square
attacks_if_open first board by sight set square a sees has on inside way =
    let both = in_and set sight.attackers a inside in
    let points = (has a on).0 both.0 in
    let stands = (sees.attackers a on).0 both.1 in
    let same = holds_one first a (piece_of points.0 points.1) (piece_of by stands.0) points.2 (sees.stood a stands.0 stands.1) in
    let aims = subst (λ (kind : Kind). Aims by kind a square) (ap (λ (p : Piece). p.kind) same) points.3 in
    (a, stands.0, stands.1, attack_of by stands.0 board a square aims (clear_if_open board sight.occupied a square sees.occupied way))

pub open_if_attacks : (first board : Board) (by : Colour) (sight : Sight) (set square : ℕ) → IsSight first board by sight → HasPieces set first by square → IsAttacked board by square
    → (a : ℕ) × (a < 64) × In (bit_and set sight.attackers) a × Open sight.occupied a square
open_if_attacks first board by sight set square sees has (a, kind, stands, attacks) =
    let on = holds_on_board board a (piece_of by kind) sees.full stands in
    let points = (has a on).1 (by, kind, sees.stood a kind stands, points_of by kind board a square attacks) in
    (a, on, in_both set sight.attackers a points ((sees.attackers a on).1 (kind, stands)), open_if_clear board sight.occupied a square sees.occupied attacks.2)

-- what is left of a set, where of the others each has something in its way
pub record Left (occ square start rest : ℕ) : Type 0 where
  pub from_start : (q : ℕ) → q < 64 → In rest q → In start q
  pub shut : (q : ℕ) → q < 64 → In start q → ¬ In rest q → ¬ Open occ q square

pub left_all : (occ square start : ℕ) → Left occ square start start
left_all occ square start = record { from_start = λ q on h. h; shut = λ q on h none. absurd (none h) }

pub left_next : (occ square start rest at : ℕ) → Left occ square start rest → trailing_zeros w64 rest < 64 → at ≡ trailing_zeros w64 rest → ¬ Open occ at square
    → Left occ square start (without rest (trailing_zeros w64 rest))
left_next occ square start rest at left some here shut =
    let k = trailing_zeros w64 rest in
    record {
      from_start = λ q on h. elim (same_or_not q k) [
        | inl e ↦ absurd (let P : ℕ → Type 0 = λ x. In (without rest (trailing_zeros w64 rest)) x in let one = subst P e h in let none = without_same rest (trailing_zeros w64 rest) some in omega arith)
        | inr ne ↦ left.from_start q on (let same = without_other rest (trailing_zeros w64 rest) q some on ne in omega arith)
      ];
      shut = λ q on h none. elim (same_or_not q k) [
        | inl e ↦ (let same : at ≡ q = omega arith in let P : ℕ → Type 0 = λ x. ¬ Open occ x square in subst P same shut)
        | inr ne ↦ left.shut q on h (λ inside. none (let same = without_other rest (trailing_zeros w64 rest) q some on ne in omega arith))
      ];
    }

-- the lowest of what is left was there at the start
pub lowest_left : (occ square start rest at : ℕ) → Left occ square start rest → rest < 2 ^ 64 → trailing_zeros w64 rest < 64 → at ≡ trailing_zeros w64 rest → (at < 64) × In start at
lowest_left occ square start rest at left small some here =
    let on : at < 64 = omega arith in
    let P : ℕ → Type 0 = λ q. In rest q in
    (on, left.from_start at on (subst P (sym here) (low_bit rest small some)))

-- ---- after a move of the other side

-- a set tells the places of a board that have a property
abbrev Tells : ℕ → Board → (Option Piece → Type 0) → Type 0
Tells bitboard board F = (q : ℕ) → q < 64 → (In bitboard q → F (at board q)) × (F (at board q) → In bitboard q)

-- a piece of this side stands on the place
abbrev IsOf : Colour → Option Piece → Type 0
IsOf by place = (kind : Kind) × (place ≡ Some (piece_of by kind))

of_none : (by : Colour) → IsOf by None → ⊥
of_none by h = let e = h.1 in absurd cc

of_side : (by : Colour) (p : Piece) → IsOf by (Some p) → p.colour ≡ by
of_side by p h = ap (λ (x : Piece). x.colour) (same_Some _ _ h.1)

-- after a piece of the other side was carried, the sets without the square that it reaches
tells_carried : (bitboard : ℕ) (old new : Board) (F : Option Piece → Type 0) (by : Colour) (from to : ℕ) (piece own : Piece)
    → (F None → ⊥) → ((p : Piece) → F (Some p) → p.colour ≡ by) → Tells bitboard old F → Differs old new ((from, None) ∷ (to, Some piece) ∷ [])
    → piece.colour ≢ by → Holds old from own → own.colour ≢ by → from ≢ to → to < 64 → Tells (without bitboard to) new F
tells_carried bitboard old new F by from to piece own none side tells moved other stands enemy ne on =
    let T : ℕ → Option Piece → Type 0 = λ q place. q < 64 → (In (without bitboard to) q → F place) × (F place → In (without bitboard to) q) in
    let C : ℕ × Option Piece → Type 0 = λ c. T c.0 c.1 in
    each_place old new ((from, None) ∷ (to, Some piece) ∷ []) T moved
    (All-two C (from, None) (to, Some piece) []
    (λ in_q.
    let kept = without_other bitboard to from on in_q ne in (
      λ h. absurd (enemy (side own (subst F stands ((tells from in_q).0 (sym kept ∙ h))))),
      λ h. absurd (none h),
    ))
    (λ in_q. (
      λ h. absurd (let gone = without_same bitboard to on in omega arith),
      λ h. absurd (other (side piece h)),
    ))
    (All-nil C))
    (λ q off in_q.
    let kept = without_other bitboard to q on in_q (off 1 (0, None) (omega arith)) in (
      λ h. (tells q in_q).0 (sym kept ∙ h),
      λ h. kept ∙ (tells q in_q).1 h,
    ))

-- the same of what is taken
taken_carried : (bitboard : ℕ) (old new : Board) (from to : ℕ) (piece : Piece) → IsOccupied bitboard old → Differs old new ((from, None) ∷ (to, Some piece) ∷ [])
    → from < 64 → to < 64 → from ≢ to → IsOccupied (bit_or (without bitboard from) (1 * 2 ^ to % 2 ^ bits w64)) new
taken_carried bitboard old new from to piece taken moved on_from on ne =
    let set = bit_or (without bitboard from) (1 * 2 ^ to % 2 ^ bits w64) in
    let T : ℕ → Option Piece → Type 0 = λ q place. q < 64 → (In set q → ¬ (place ≡ None)) × (¬ (place ≡ None) → In set q) in
    let C : ℕ × Option Piece → Type 0 = λ c. T c.0 c.1 in
    each_place old new ((from, None) ∷ (to, Some piece) ∷ []) T moved
    (All-two C (from, None) (to, Some piece) []
    (λ in_q.
    let same = bit_at_set_other w64 (without bitboard from) to on from ne in
    let gone = without_same bitboard from on_from in (
      λ h. absurd (let here = sym same ∙ h in omega arith),
      λ h. absurd (h refl),
    ))
    (λ in_q. ((λ h empty. cc), (λ h. bit_at_set_same w64 (without bitboard from) to on)))
    (All-nil C))
    (λ q off in_q.
    let same = bit_at_set_other w64 (without bitboard from) to on q (off 1 (0, None) (omega arith)) in
    let kept = without_other bitboard from q on_from in_q (off 0 (0, None) (omega arith)) in (
      λ h. (taken q in_q).0 (sym kept ∙ (sym same ∙ h)),
      λ h. same ∙ (kept ∙ (taken q in_q).1 h),
    ))

pub sight_carried : (first old new : Board) (by : Colour) (sight : Sight) (from to : ℕ) (piece own : Piece) → IsSight first old by sight
    → Differs old new ((from, None) ∷ (to, Some piece) ∷ []) → piece.colour ≢ by → Holds old from own → own.colour ≢ by → from < 64 → to < 64 → from ≢ to
    → IsSight first new by (record { occupied = bit_or (without sight.occupied from) (1 * 2 ^ to % 2 ^ bits w64); attackers = without sight.attackers to })
sight_carried first old new by sight from to piece own sees moved other stands enemy on_from on ne =
    let S : ℕ → Option Piece → Type 0 = λ q place. (kind : Kind) → place ≡ Some (piece_of by kind) → Holds first q (piece_of by kind) in
    let C : ℕ × Option Piece → Type 0 = λ c. S c.0 c.1 in
    record {
      full = moved.squares;
      occupied = taken_carried sight.occupied old new from to piece sees.occupied moved on_from on ne;
      attackers = tells_carried sight.attackers old new (IsOf by) by from to piece own (of_none by) (of_side by) sees.attackers moved other stands enemy ne on;
      stood = each_place old new ((from, None) ∷ (to, Some piece) ∷ []) S moved
          (All-two C (from, None) (to, Some piece) [] (λ kind e. absurd (of_none by (kind, e))) (λ kind e. absurd (other (of_side by piece (kind, e)))) (All-nil C))
          (λ q off. sees.stood q);
    }

-- after a piece of the other side has gone, the sets are the same
tells_lifted : (bitboard : ℕ) (old new : Board) (F : Option Piece → Type 0) (by : Colour) (from : ℕ) (own : Piece)
    → (F None → ⊥) → ((p : Piece) → F (Some p) → p.colour ≡ by) → Tells bitboard old F → Differs old new ((from, None) ∷ []) → Holds old from own → own.colour ≢ by → Tells bitboard new F
tells_lifted bitboard old new F by from own none side tells gone stands enemy =
    let T : ℕ → Option Piece → Type 0 = λ q place. q < 64 → (In bitboard q → F place) × (F place → In bitboard q) in
    let C : ℕ × Option Piece → Type 0 = λ c. T c.0 c.1 in
    each_place old new ((from, None) ∷ []) T gone
    (All-cons C (from, None) []
    (λ on. ((λ h. absurd (enemy (side own (subst F stands ((tells from on).0 h))))), (λ h. absurd (none h))))
    (All-nil C))
    (λ q off. tells q)

-- the same of what is taken, without the square
taken_lifted : (bitboard : ℕ) (old new : Board) (from : ℕ) → IsOccupied bitboard old → Differs old new ((from, None) ∷ []) → from < 64 → IsOccupied (without bitboard from) new
taken_lifted bitboard old new from taken gone on_from =
    let T : ℕ → Option Piece → Type 0 = λ q place. q < 64 → (In (without bitboard from) q → ¬ (place ≡ None)) × (¬ (place ≡ None) → In (without bitboard from) q) in
    let C : ℕ × Option Piece → Type 0 = λ c. T c.0 c.1 in
    each_place old new ((from, None) ∷ []) T gone
    (All-cons C (from, None) []
    (λ on. let cleared = without_same bitboard from on_from in ((λ h. absurd (omega arith)), (λ h. absurd (h refl))))
    (All-nil C))
    (λ q off on.
    let kept = without_other bitboard from q on_from on (off 0 (0, None) (omega arith)) in (
      λ h. (taken q on).0 (sym kept ∙ h),
      λ h. kept ∙ (taken q on).1 h,
    ))

pub sight_lifted : (first old new : Board) (by : Colour) (sight : Sight) (from : ℕ) (own : Piece) → IsSight first old by sight → Differs old new ((from, None) ∷ [])
    → Holds old from own → own.colour ≢ by → from < 64 → IsSight first new by (record sight { occupied = without sight.occupied from })
sight_lifted first old new by sight from own sees gone stands enemy on =
    let S : ℕ → Option Piece → Type 0 = λ q place. (kind : Kind) → place ≡ Some (piece_of by kind) → Holds first q (piece_of by kind) in
    let C : ℕ × Option Piece → Type 0 = λ c. S c.0 c.1 in
    record {
      full = gone.squares;
      occupied = taken_lifted sight.occupied old new from sees.occupied gone on;
      attackers = tells_lifted sight.attackers old new (IsOf by) by from own (of_none by) (of_side by) sees.attackers gone stands enemy;
      stood = each_place old new ((from, None) ∷ []) S gone (All-cons C (from, None) [] (λ kind e. absurd (of_none by (kind, e))) (All-nil C)) (λ q off. sees.stood q);
    }
