use Rattle.std.proofs.Common.{length}
use Rattle.pb_epd.specs.Lexeme.{token_of}
use Rattle.pb_epd.proofs.Bad.{Lexed}
use Rattle.pb_epd.proofs.token.first_bad.Given as goal

abbrev pub invariant-loop-spaces : goal.invariant-loop-spaces
invariant-loop-spaces l = Lexed l.text (token_of l.before) l.rest

abbrev pub decreases-loop-spaces : goal.decreases-loop-spaces
decreases-loop-spaces l = length l.rest
