use Rattle.std.proofs.Common.{◌≡◌, ◌↔◌, drop, map}
use Rattle.pb_moves.specs.Spelling.{spelling}
use Rattle.pb_games.specs.Tokens.{tokens_of}
use Rattle.pb_games.proofs.game.spell.Given as goal

abbrev pub invariant-loop-m : goal.invariant-loop-m
invariant-loop-m l = (l.tokens ≡ map spelling (drop l.m-index l.moves)) ↔ (tokens_of l.field ≡ map spelling l.moves)
