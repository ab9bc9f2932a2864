-- What a contract sees of a ledger, and what is true of each.
use Rattle.std.specs.Prelude.{ℕ, List, [], ◌≡◌, ◌+◌, ◌≤◌, ◌==◌, ◌&&◌, Bool, not, length, All}
use Rattle.std.specs.Prelude.{map}
use Rattle.pb_games.specs.Submissions.{Submission, IsSubmission}
use Rattle.pb_accepted.specs.Rules.{Basis, CountingRules, AreRules}
use Rattle.std.specs.List.{filter}
use Rattle.pb_poly.specs.Table.{IsTable}
use Rattle.pb_points.specs.Tally.{Content, Held, held}
use Rattle.pb_accepted.specs.Counting.{count, counted, times, given_by}
use Rattle.pb_accepted.specs.Replying.{HaveOwnIds, most_games}
use Rattle.pb_accepted.specs.declared.ply_points.PlyPoints.{PlyPoints}
use Rattle.pb_board.specs.Position.{Position}
use Rattle.pb_moves.specs.Played.{Ply}
use Rattle.pb_poly.specs.Key.{key}
use Rattle.pb_games.specs.declared.game.Outcome.{Outcome}
use Rattle.pb_accepted.specs.declared.recorder.Recorder.{Recorder}

-- what its counts rest on, how many games may be held, and those that are, in order of acceptance
pub record LedgerState : Type 0 where
  pub basis : Basis
  pub cap : ℕ
  pub accepted : List Submission

-- one of a table with these random numbers, without games
abbrev pub new_ledger : CountingRules → List ℕ → ℕ → LedgerState
new_ledger rules randoms cap =
    record { basis = record { randoms = randoms; rules = rules }; cap = cap; accepted = [] }

-- all but the games is as it was
abbrev pub KeepsRest : LedgerState → LedgerState → Type 0
KeepsRest old new = new ≡ record old { accepted = new.accepted }

-- the rules that every ledger meets
pub record IsLedger (l : LedgerState) : Type 0 where
  pub table : IsTable l.basis.randoms
  pub counting : AreRules l.basis.rules
  pub few : l.cap ≤ most_games
  pub room : length l.accepted ≤ l.cap
  pub games : All IsSubmission l.accepted
  pub ids : HaveOwnIds l.accepted

-- where one occurrence is enough for an entry, a ply of the side that lost needs no row: it has no
-- points, and stands in a list beside the tally
abbrev pub is_lost : ℕ → PlyPoints → Bool
is_lost least p = (least == 1) && (p.points == 0)

abbrev pub lost : ℕ → List PlyPoints → List PlyPoints
lost least G = filter (is_lost least) G

-- the plies that have rows
abbrev pub rowed : ℕ → List PlyPoints → List PlyPoints
rowed least G = filter (λ p. not (is_lost least p)) G

-- the tally holds the counts of these plies and how often each move occurs, and a row that isn't
-- there counts 0
abbrev pub Tallies : Content → List PlyPoints → Type 0
Tallies content G = (k c : ℕ)
    → held content k c ≡ record { points = count G k c; times = times G k c }

-- what is held of a key and a code, with these plies more
abbrev pub with_ply_points : List PlyPoints → ℕ → ℕ → Held → Held
with_ply_points G k c h = record { points = h.points + count G k c; times = h.times + times G k c }

-- the ledger meets its rules, its tally holds the counts of its games, and beside it are the plies
-- that need no row
pub record HoldsCounts (content : Content) (beside : List PlyPoints) (l : LedgerState)
    : Type 0 where
  pub rules : IsLedger l
  pub counts : Tallies content (rowed l.basis.rules.least (counted l.basis l.accepted))
  pub lost : beside ≡ lost l.basis.rules.least (counted l.basis l.accepted)

-- these plies of a game with this outcome were noted, what a ply of each side gives is by the
-- outcome, and the key is that of the setup
pub record HoldsPlies (r : Recorder) (outcome : Outcome) (ps : List Ply) (t : Position)
    : Type 0 where
  pub outcome_is : r.outcome ≡ outcome
  pub key_is : r.key ≡ key r.table t
  pub ply_points : r.ply_points.items ≡ map (given_by r.table outcome) ps
  pub moves : r.moves.items ≡ map (λ p. p.1) ps
