use Rattle.pb_moves.proofs.check.sight_of.Goals as goal

pub returns : goal.returns
returns c = record {
  full = c.occupied.ensures.rules.places;
  occupied = λ q on. c.occupied.ensures.squares q;
  attackers = λ q on. c.by_colour.ensures.squares q;
  stood = λ q kind stands. stands;
}
