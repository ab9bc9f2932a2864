-- The counts that a ledger's tally holds, and one game more.
use Rattle.std.proofs.Common.{◌≡◌, ◌≢◌, ℕ, ◌+◌, ◌*◌, ◌<◌, ◌≤◌, ◌^◌, List, [], ◌∷◌, ◌++◌, length, not, sym, ap, ◌∙◌, arith}
use Rattle.std.proofs.lemmas.List.{length_push}
use Rattle.std.proofs.lemmas.List.Elements.{All-push, filter-append}
use Rattle.std.proofs.lemmas.List.Quantifiers.{all_pairs_push}
use Rattle.pb_games.specs.Submissions.{Submission, IsSubmission}
use Rattle.pb_points.specs.Tally.{Content, Held, held}
use Rattle.pb_accepted.specs.Replying.{IsNewId}
use Rattle.pb_accepted.specs.Counting.{count, counted, times}
use Rattle.pb_accepted.specs.Ledger.{HoldsCounts, is_lost, lost, rowed, with_ply_points, LedgerState}
use Rattle.pb_accepted.specs.declared.ply_points.PlyPoints.{PlyPoints}
use Rattle.pb_accepted.proofs.GivenPoints.{count-append, count-le, count_parts, counted_more, length-counted, small_ply_points, times-append, times-le, times_parts}

-- each game gives at most two points for each of its 1,024 moves, so there is room for those of one
-- game more
pub points_fit : (f : Content) (beside : List PlyPoints) (l : LedgerState) (s : Submission) → HoldsCounts f beside l → IsSubmission s → (k c : ℕ) → (held f k c).points + 2 * length s.1.moves ≤ 2 ^ 63
points_fit f beside l s h legal k c =
    let G = counted l.basis l.accepted in
    let least = l.basis.rules.least in
    let now : (held f k c).points ≡ count (rowed least G) k c = ap (λ (x : Held). x.points) (h.counts k c) in
    let most : count G k c ≤ length G * 2 = count-le G k c (small_ply_points l.basis l.accepted) in
    let many : length G ≤ length l.accepted * 1024 = length-counted l.basis l.accepted h.rules.games in
    omega (arith, now, count_parts least G k c, most, many, h.rules.room, h.rules.few, legal.game.few)

-- and each ply counts once
pub times_fit : (f : Content) (beside : List PlyPoints) (l : LedgerState) (s : Submission) → HoldsCounts f beside l → IsSubmission s → (k c : ℕ) → (held f k c).times + length s.1.moves ≤ 2 ^ 63
times_fit f beside l s h legal k c =
    let G = counted l.basis l.accepted in
    let least = l.basis.rules.least in
    let now : (held f k c).times ≡ times (rowed least G) k c = ap (λ (x : Held). x.times) (h.counts k c) in
    let most : times G k c ≤ length G = times-le G k c in
    let many : length G ≤ length l.accepted * 1024 = length-counted l.basis l.accepted h.rules.games in
    omega (arith, now, times_parts least G k c, most, many, h.rules.room, h.rules.few, legal.game.few)

-- the ledger with one game more
abbrev pub with_game : LedgerState → Submission → LedgerState
with_game l s = record { basis = l.basis; cap = l.cap; accepted = l.accepted ++ s ∷ [] }

-- the counts of plies, with those of others
joined : (G H : List PlyPoints) (k c : ℕ) → with_ply_points H k c (record { points = count G k c; times = times G k c }) ≡ record { points = count (G ++ H) k c; times = times (G ++ H) k c }
joined G H k c = λ i. record { points = sym (count-append G H k c) i; times = sym (times-append G H k c) i }

pub Holds-push : (f g : Content) (old now : List PlyPoints) (l : LedgerState) (s : Submission) → HoldsCounts f old l → IsSubmission s → IsNewId s.0 l.accepted → length l.accepted < l.cap
    → ((k c : ℕ) → held g k c ≡ with_ply_points (rowed l.basis.rules.least (counted l.basis (s ∷ []))) k c (held f k c)) → now ≡ old ++ lost l.basis.rules.least (counted l.basis (s ∷ [])) → HoldsCounts g now (with_game l s)
Holds-push f g old now l s was legal fresh room added beside = record {
  rules = record {
    table = was.rules.table;
    counting = was.rules.counting;
    few = was.rules.few;
    room = omega (arith, room, length_push l.accepted s);
    games = All-push IsSubmission l.accepted s was.rules.games legal;
    ids = all_pairs_push (λ t u. t.0 ≢ u.0) l.accepted s was.rules.ids fresh;
  };
  counts = λ k c.
      added k c ∙ ap (with_ply_points (rowed least new) k c) (was.counts k c) ∙ joined (rowed least G) (rowed least new) k c
      ∙ ap (λ X. record { points = count X k c; times = times X k c }) (sym (filter-append (λ p. not (is_lost least p)) G new) ∙ ap (rowed least) both);
  lost = beside ∙ ap (λ l. l ++ lost least new) was.lost ∙ sym (filter-append (is_lost least) G new) ∙ ap (lost least) both;
}
  where
    least : ℕ
    least = l.basis.rules.least

    G : List PlyPoints
    G = counted l.basis l.accepted

    new : List PlyPoints
    new = counted l.basis (s ∷ [])

    both : G ++ new ≡ counted l.basis (l.accepted ++ s ∷ [])
    both = sym (counted_more l.basis l.accepted s)
