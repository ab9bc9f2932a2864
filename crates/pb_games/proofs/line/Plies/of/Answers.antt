use Rattle.std.proofs.lemmas.List.Elements.{All-same}
use Rattle.pb_moves.specs.Played.{IsSpelled}
use Rattle.pb_games.proofs.line.Plies.of.Goals as goal

pub invariant_of-result : goal.invariant_of-result
invariant_of-result c = All-same IsSpelled _ _ c.of.ensures c.requires
