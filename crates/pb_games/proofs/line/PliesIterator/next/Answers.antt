use Rattle.std.proofs.Common.{sym}
use Rattle.pb_games.proofs.TokenLemmas.{next_move, spelt_left}
use Rattle.pb_games.proofs.line.PliesIterator.next.Goals as goal

pub invariant_of-self-2 : goal.invariant_of-self-2
invariant_of-self-2 c = spelt_left _ _ _ c.self.invariant c.in_ok-next_move.ensures

pub returns-clause-steps : goal.returns-clause-steps
returns-clause-steps c = next_move _ _ _ _ (sym c.self.view_is) c.self.invariant c.in_ok-next_move.ensures
