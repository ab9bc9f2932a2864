use Rattle.pb_accepted.proofs.Steps.{arrivals_are, has_no_conflict, takes_the_taken}
use Rattle.pb_accepted.proofs.laws.one_game.Goals as goal

pub returns : goal.returns
returns c = record { taken = takes_the_taken; no_conflict = has_no_conflict; arrivals = arrivals_are }
