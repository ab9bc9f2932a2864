use Rattle.std.proofs.Common.{◌≡◌, ℕ, Some, None, ◌≤◌, List, All, ◌++◌, length}
use Rattle.pb_board.specs.Refusal.{BreaksAt}
use Rattle.pb_moves.specs.Played.{AreLegal, IsSpelled}
use Rattle.pb_games.specs.Tokens.{tokens_of, moves_spelt}
use Rattle.pb_games.proofs.Played.{Leads}
use Rattle.pb_games.proofs.judge.read_moves.Given as goal

-- the tokens so far spell moves; all that were played were legal, or the first that wasn't is known
abbrev pub invariant-loop-read : goal.invariant-loop-read
invariant-loop-read g l = record {
  done : List (List ℕ);
  cut : tokens_of l.field ≡ done ++ l.tokens;
  number : l.count ≡ length done;
  spelt : All IsSpelled done;
  fixed : g.P.MoveVisitor.fixed l.visitor ≡ g.P.MoveVisitor.fixed l.fn.visitor;
  legal : l.illegal ≡ None → l.count ≤ 1024 → Leads (g.P.MoveVisitor.holds l.visitor l.fn.outcome) l.fn.start (moves_spelt l.field) l.setup l.tokens l.count;
  bad : (n : ℕ) → l.illegal ≡ Some n → BreaksAt (AreLegal l.fn.start) (moves_spelt l.field) n;
}

abbrev pub decreases-loop-read : goal.decreases-loop-read
decreases-loop-read g l = length l.tokens
